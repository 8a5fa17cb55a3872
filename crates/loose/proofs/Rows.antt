-- What a call of a row makes of its slots.
use Rattle.std.proofs.Common.{◌≡◌, ℕ, ◌^◌, ◌<◌, ◌≤◌, true, List, [], length, get_or, set, Some, None, Option, Ok, Err, Result, subst, refl, ap, ◌∙◌, arith, get_or-set_same}
use Rattle.std.proofs.lemmas.List.{length-set}
use Rattle.std.specs.Result.{result_ok}
use Rattle.store.specs.Held.{at, write}
use Rattle.loose.specs.Homes.{clear, Sought, Found, Tidy, Closing}
use Rattle.loose.specs.Slots.{gathered, holds, Blank}
use Rattle.loose.specs.Gathers.{gathered_none, gathered_set, distinct_set, alone}
use Rattle.loose.proofs.Homes.{settled_put, settled_free, settled_none, resized, own_held}

module _ {V : Type 0} where
  -- a pair put where the search for its key stops
  pub put_in : (ss : List (Option (ℕ × V))) (k : ℕ) (v : V) (i : ℕ) → Tidy ss → k < 2 ^ 64 → Sought (length ss) ss k (Some i) →
      at (gathered (set ss i None)) k ≡ None → Tidy (set ss i (Some (k, v))) × (gathered (set ss i (Some (k, v))) ≡ write (gathered ss) k (Some v))
  put_in ss k v i tidy fits there gone = (
    (
      omega (arith, length-set ss i (Some (k, v)), tidy.0),
      distinct_set k (Some v) ss i fits there.0 there.1 gone tidy.1,
      resized ss i (Some (k, v)) (settled_put (length ss) ss k v i refl tidy.2 there),
    ),
    gathered_set k (Some v) ss i there.0 there.1 gone,
  )

  -- the slot of a key freed
  pub freed : (ss : List (Option (ℕ × V))) (k i : ℕ) → Tidy ss → k < 2 ^ 64 → i < length ss → holds (get_or ss i None) k ≡ true →
      Closing (set ss i None) i × (gathered (set ss i None) ≡ write (gathered ss) k None)
  freed ss k i tidy fits l held =
      let len = length-set ss i None in
      let own = own_held (get_or ss i None) k held in
      let gone = alone ss i k tidy.1 l held in (
        (
          omega (arith, tidy.0),
          distinct_set k None ss i fits l own gone tidy.1,
          omega arith,
          get_or-set_same ss i None None l,
          λ a b nb. ap (λ n. clear n (set ss i None) a b) len ∙ settled_free (length ss) ss i refl l tidy.2 a b nb,
        ),
        gathered_set k None ss i l own gone,
      )

  -- every slot freed
  pub emptied : (ss : List (Option (ℕ × V))) → Blank ss → length ss ≤ 65536 → Tidy ss × (gathered ss ≡ [])
  emptied ss blank small = let none = gathered_none ss blank in ((small, none.1, settled_none ss blank), none.0)

  -- a key whose slot is not found is not there
  pub not_found : (ss : List (Option (ℕ × V))) (k : ℕ) (r : Result ℕ (Option ℕ)) → Found ss k r → ((i : ℕ) → r ≡ Ok i → ⊥) → at (gathered ss) k ≡ None
  not_found ss k (Ok i) is not = absurd (not i refl)
  not_found ss k (Err (Some i)) is not = is.0
  not_found ss k (Err None) is not = is.0

  -- what is found, where the search told the slot of the key
  pub found_ok : (ss : List (Option (ℕ × V))) (k i : ℕ) (r : Result ℕ (Option ℕ)) → Some i ≡ result_ok r → Found ss k r → Found ss k (Ok i)
  found_ok ss k i (Ok j) e is = let same : j ≡ i = cc in let P : ℕ → Type 0 = λ m. Found ss k (Ok m) in subst P same is
  found_ok ss k i (Err f) e is = cc
