-- What loops leave that move the slots from a place on by one.
use Rattle.std.proofs.Common.{◌≡◌, ℕ, ◌+◌, ◌-◌, ◌<◌, ◌≤◌, List, ◌∷◌, length, get_or, take, drop, set, sym, ap, ◌∙◌, inl, inr, arith}
use Rattle.std.proofs.lemmas.List.{length-take, length-set, same_lists, get_or_read, get_or-take, get_or-set_same, get_or-set_other, get_or-drop, length-drop, drop-set, drop-set-lt, take-set-le}
use Rattle.std.proofs.lemmas.List.Edits.{length-insert, get_or-insert_at, get_or-insert_below, get_or-insert_above, length-remove, get_or-remove_below, get_or-remove_above}
use Rattle.std.proofs.lemmas.Bool.{cases_order, cases_eq, cases_lt}
use Rattle.std.specs.List.{insert, remove}

module _ {X : Type 0} (xs : List X) (len at : ℕ) where
  -- what no step changed from n on
  same_drops : (n : ℕ) (s : List X) → length s ≡ length xs → ((k : ℕ) (d : X) → n ≤ k → get_or s k d ≡ get_or xs k d) → drop n s ≡ drop n xs
  same_drops n s same rest =
      same_lists (drop n s) (drop n xs) (simp length-drop (omega arith))
      (λ k d l. get_or-drop n s k d ∙ rest (n + k) d (omega arith) ∙ sym (get_or-drop n xs k d))

  -- after a loop that moved each slot from `at` to `len` up by one
  pub moved_up : (s : List X) (x : X) → length s ≡ length xs → at ≤ len → len < length xs
      → ((k : ℕ) (d : X) → k < at → get_or s k d ≡ get_or xs k d)
      → ((k : ℕ) (d : X) → at ≤ k → k < len → get_or s (k + 1) d ≡ get_or xs k d)
      → take (len + 1) (set s at x) ≡ insert (take len xs) at x
  moved_up s x same low high below above =
      let n : length (take len xs) ≡ len = simp length-take (omega arith) in
      let m : length (take (len + 1) (set s at x)) ≡ len + 1 = simp (length-take, length-set) (omega arith) in
      same_lists (take (len + 1) (set s at x)) (insert (take len xs) at x)
      (m ∙ sym (length-insert (take len xs) at x (omega arith) ∙ ap (λ j. j + 1) n))
      (λ k d l. get_or-take (len + 1) (set s at x) k d (omega arith) ∙
      elim (cases_order k at) [
        | inl e ↦ ap (λ j. get_or (set s at x) j d) e ∙ get_or-set_same s at x d (omega arith)
            ∙ sym (ap (λ j. get_or (insert (take len xs) at x) j d) e ∙ get_or-insert_at (take len xs) at x d (omega arith))
        | inr (inl lt) ↦ get_or-set_other s at k x d (λ e. omega arith) ∙ below k d lt
            ∙ sym (get_or-insert_below (take len xs) at x d k lt (omega arith) ∙ get_or-take len xs k d (omega arith))
        | inr (inr gt) ↦
            let back : k - 1 + 1 ≡ k = omega arith in
            get_or-set_other s at k x d (λ e. omega arith) ∙ ap (λ j. get_or s j d) (sym back) ∙ above (k - 1) d (omega arith) (omega arith)
            ∙ sym (ap (λ j. get_or (insert (take len xs) at x) j d) (sym back)
            ∙ get_or-insert_above (take len xs) at x d (k - 1) (omega arith) (omega arith) ∙ get_or-take len xs (k - 1) d (omega arith))
      ])

  -- and what stands past them
  pub past_up : (s : List X) (x : X) → length s ≡ length xs → at ≤ len → ((k : ℕ) (d : X) → len < k → get_or s k d ≡ get_or xs k d)
      → drop (len + 1) (set s at x) ≡ drop (len + 1) xs
  past_up s x same low past =
      drop-set-lt (len + 1) s at x (omega arith) ∙ same_drops (len + 1) s same (λ k d l. past k d (omega arith))

  -- one turn of that loop
  pub move_more : (s : List X) (i : ℕ) (x : X) → at < i → i ≤ len → len < length s → x ≡ get_or s (i - 1) x
      → ((k : ℕ) (d : X) → k < i → get_or s k d ≡ get_or xs k d)
      → ((k : ℕ) (d : X) → i ≤ k → k < len → get_or s (k + 1) d ≡ get_or xs k d)
      → ((k : ℕ) (d : X) → len < k → get_or s k d ≡ get_or xs k d)
      → (at ≤ i - 1)
      × ((k : ℕ) (d : X) → k < i - 1 → get_or (set s (i - 1 + 1) x) k d ≡ get_or xs k d)
      × ((k : ℕ) (d : X) → i - 1 ≤ k → k < len → get_or (set s (i - 1 + 1) x) (k + 1) d ≡ get_or xs k d)
      × ((k : ℕ) (d : X) → len < k → get_or (set s (i - 1 + 1) x) k d ≡ get_or xs k d)
  move_more s i x low high long is below above past = (
    omega arith,
    λ k d l. get_or-set_other s (i - 1 + 1) k x d (λ e. omega arith) ∙ below k d (omega arith),
    λ k d l h. elim (cases_order k (i - 1)) [
      | inl e ↦ ap (λ j. get_or (set s (i - 1 + 1) x) (j + 1) d) e ∙ get_or-set_same s (i - 1 + 1) x d (omega arith)
          ∙ get_or_read s (i - 1) x (omega arith) is d ∙ below (i - 1) d (omega arith) ∙ ap (λ j. get_or xs j d) (sym e)
      | inr (inl lt) ↦ absurd (omega arith)
      | inr (inr gt) ↦ get_or-set_other s (i - 1 + 1) (k + 1) x d (λ e. omega arith) ∙ above k d (omega arith) h
    ],
    λ k d l. get_or-set_other s (i - 1 + 1) k x d (λ e. omega arith) ∙ past k d l,
  )

  -- after a loop that moved each slot after `at`, up to `len`, down by one
  pub moved_down : (s : List X) (x : X) → length s ≡ length xs → at < len → len ≤ length xs
      → ((k : ℕ) (d : X) → k < at → get_or s k d ≡ get_or xs k d)
      → ((k : ℕ) (d : X) → at ≤ k → k + 1 < len → get_or s k d ≡ get_or xs (k + 1) d)
      → take (len - 1) (set s (len - 1) x) ≡ remove (take len xs) at
  moved_down s x same low high below above =
      take-set-le (len - 1) s (len - 1) x (omega arith) ∙
      let n : length (take len xs) ≡ len = simp length-take (omega arith) in
      let m : length (take (len - 1) s) ≡ len - 1 = simp length-take (omega arith) in
      same_lists (take (len - 1) s) (remove (take len xs) at)
      (omega (arith, length-remove (take len xs) at (omega arith)))
      (λ k d l. get_or-take (len - 1) s k d (omega arith) ∙
      elim (cases_lt k at) [
        | inl lt ↦ below k d lt
            ∙ sym (get_or-remove_below (take len xs) at d k lt (omega arith) ∙ get_or-take len xs k d (omega arith))
        | inr le ↦ above k d le (omega arith)
            ∙ sym (get_or-remove_above (take len xs) at d k le (omega arith) ∙ get_or-take len xs (k + 1) d (omega arith))
      ])

  -- and what stands past them
  pub past_down : (s : List X) (x : X) → length s ≡ length xs → at < len → len ≤ length xs → ((k : ℕ) (d : X) → len ≤ k → get_or s k d ≡ get_or xs k d)
      → drop (len - 1) (set s (len - 1) x) ≡ x ∷ drop len xs
  past_down s x same low high rest =
      let back : len - 1 + 1 ≡ len = omega arith in
      drop-set s (len - 1) x (omega arith) ∙ ap (λ j. x ∷ drop j s) back ∙ ap (λ t. x ∷ t) (same_drops len s same rest)

  -- one turn of that loop
  pub move_down_more : (s : List X) (i : ℕ) (x : X) → at < i → i < len → len ≤ length s → x ≡ get_or s i x
      → ((k : ℕ) (d : X) → k < at → get_or s k d ≡ get_or xs k d)
      → ((k : ℕ) (d : X) → at ≤ k → k + 1 < i → get_or s k d ≡ get_or xs (k + 1) d)
      → ((k : ℕ) (d : X) → i ≤ k → get_or s k d ≡ get_or xs k d)
      → ((k : ℕ) (d : X) → k < at → get_or (set s (i - 1) x) k d ≡ get_or xs k d)
      × ((k : ℕ) (d : X) → at ≤ k → k + 1 < i + 1 → get_or (set s (i - 1) x) k d ≡ get_or xs (k + 1) d)
      × ((k : ℕ) (d : X) → i + 1 ≤ k → get_or (set s (i - 1) x) k d ≡ get_or xs k d)
  move_down_more s i x low high long is front moved rest = (
    λ k d l. get_or-set_other s (i - 1) k x d (λ e. omega arith) ∙ front k d l,
    λ k d l h. elim (cases_eq k (i - 1)) [
      | inl e ↦ ap (λ j. get_or (set s (i - 1) x) j d) e ∙ get_or-set_same s (i - 1) x d (omega arith)
          ∙ get_or_read s i x (omega arith) is d ∙ rest i d (omega arith) ∙ ap (λ j. get_or xs j d) (omega arith)
      | inr ne ↦ get_or-set_other s (i - 1) k x d ne ∙ moved k d l (omega arith)
    ],
    λ k d l. get_or-set_other s (i - 1) k x d (λ e. omega arith) ∙ rest k d (omega arith),
  )
