-- What stands at a key's place in a sorted list of pairs, and what a change there makes of the list.
use Rattle.std.proofs.Common.{◌≡◌, ℕ, ◌<◌, ◌≤◌, Bool, true, cond, List, length, get_or, set, is_some, Some, None, Option, MatchOption, Bor, Ok, Err, sym, ap, ◌∙◌, arith}
use Rattle.std.specs.Option.{option_copied}
use Rattle.std.specs.List.{insert, remove, HoldsAt}
use Rattle.store.specs.Held.{at, from, write}
use Rattle.ordered.specs.Slots.{rank, place}
use Rattle.ordered.specs.Ranks.{at_index, at_place, from_rank, from_past, from_ok, from_err, write_new, write_there, write_out}
use Rattle.own_store.specs.Pairs.{sorted}
use Rattle.own_store.specs.PairsLemmas.{rising}

module _ {V : Type 0} (ps : List (ℕ × V)) (up : sorted 0 ps ≡ true) (k i : ℕ) where
  -- What the pair x at place i tells of k.
  module _ (x : ℕ × V) (l : i < length ps) (e : x ≡ get_or ps i x) where
    pub first_here : i ≡ rank ps k → Some x ≡ from ps k
    first_here r = ap Some (e ∙ ap (λ j. get_or ps j x) r) ∙ sym (from_rank ps k x (omega arith))

  -- What k's place gives.

  pub there : Ok i ≡ place ps k → (is_some (at ps k) ≡ true) × (i < length ps) × ((d : ℕ × V) → (get_or ps i d).0 ≡ k)
  there o =
      let ok = from_ok ps k i o in
      let a = at_place 0 ps k (rising 0 ps up) ok.1 in
      (ok.1, omega arith, λ d. ap (λ j. (get_or ps j d).0) ok.0 ∙ a.1 d)

  pub value_there : (x : ℕ × V) → x ≡ get_or ps i x → Ok i ≡ place ps k → Some x.1 ≡ at ps k
  value_there x e o = let t = there o in ap (λ p. Some p.1) e ∙ sym (at_index 0 ps k i x (rising 0 ps up) t.1 (t.2 x))

  -- What a list is after a change at k's place.
  module _ (qs : List (ℕ × V)) (v : V) where
    pub put_there : (b : Bool) → Err i ≡ place ps k → b ≡ true → qs ≡ cond b (insert ps i (k, v)) ps → qs ≡ write ps k (Some v)
    put_there b o t e = let gone = from_err ps k i o in let w = write_new ps k v gone.1 in rw t at e ∙ ap (λ j. insert ps j (k, v)) gone.0 ∙ sym w

    pub change_there : Ok i ≡ place ps k → qs ≡ set ps i (k, v) → qs ≡ write ps k (Some v)
    change_there o e = let t = there o in e ∙ sym (write_there 0 ps k i v (rising 0 ps up) t.1 t.2)

  pub out_there : (qs : List (ℕ × V)) → Ok i ≡ place ps k → qs ≡ remove ps i → qs ≡ write ps k None
  out_there qs o e = let t = there o in e ∙ sym (write_out 0 ps k i (rising 0 ps up) t.1 t.2)

  -- what a look at k's place finds
  pub first_at : i ≡ rank ps k → (r : Option (Bor (ℕ × V))) (w : Option (ℕ × V)) → w ≡ option_copied r →
      MatchOption r (length ps ≤ i) (λ x. (i < length ps) × HoldsAt (λ y. x.now ≡ y) ps i) → w ≡ from ps k
  first_at r None w e past = e ∙ sym (from_past ps k (omega arith))
  first_at r (Some x) w e here = e ∙ first_here x.now here.0 (here.1 x.now) r
