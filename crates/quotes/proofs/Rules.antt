-- The levels of rising pairs meet the rule of a quote.
use Rattle.std.proofs.Common.{◌≡◌, ℕ, suc, ◌+◌, Bool, true, false, cond, ◌&&◌, eqb, ◌⊎◌, List, [], ◌∷◌, Some, None, Option, refl, ap, ◌∙◌, subst, inl, inr, arith}
use Rattle.std.proofs.lemmas.Bool.{cases_lt, eq-eqb}
use Rattle.std.proofs.lemmas.Bool.Decides.{eqb_tells}
use Rattle.store.specs.Held.{at, From, Rising}
use Rattle.store.specs.Sums.{sum}
use Rattle.store.proofs.Maps.{absent}
use Rattle.book.specs.declared.value.Order.{Order}
use Rattle.book.specs.declared.value.Side.{Side}
use Rattle.book.specs.declared.value.Side.TheVariants.{Buy, Sell}
use Rattle.book.specs.Quote.{orders_of, on_side, better, best, shares_at, level, quoted}
use Rattle.quotes.specs.Levels.{levels}
use Rattle.quotes.specs.Rule.{Open, NoBetter, counts, SideRule, LevelsRule}

on_side_same : (by : Side) → on_side by by ≡ true
on_side_same Buy = refl
on_side_same Sell = refl

same_side : (by s : Side) → on_side by s ≡ true → s ≡ by
same_side Buy Buy h = refl
same_side Buy Sell h = cc
same_side Sell Buy h = cc
same_side Sell Sell h = refl

-- no price is better than the best, if there is one
abbrev Under : Side → ℕ → Option ℕ → Type 0
Under by p None = ⊥
Under by p (Some q) = NoBetter by p q

under_first : (by : Side) (p : ℕ) (b : Option ℕ) → NoBetter by p (better by p b)
under_first Buy p None = omega arith
under_first Buy p (Some q) = omega arith
under_first Sell p None = omega arith
under_first Sell p (Some q) = omega arith

under_rest : (by : Side) (p q : ℕ) (b : Option ℕ) → Under by p b → NoBetter by p (better by q b)
under_rest by p q None h = absurd h
under_rest Buy p q (Some r) h = omega arith
under_rest Sell p q (Some r) h = omega arith

under_more : (by : Side) (p : ℕ) (t : Bool) (q : ℕ) (b : Option ℕ) → Under by p b → Under by p (cond t (Some (better by q b)) b)
under_more by p t q b h = elim t as (λ v. Under by p (cond v (Some (better by q b)) b)) [ true ↦ under_rest by p q b h | false ↦ h ]

-- the better of two prices is one of them
one_of : (by : Side) (p q : ℕ) → (better by p (Some q) ≡ p) ⊎ (better by p (Some q) ≡ q)
one_of Buy p q = elim (cases_lt p q) [ inl h ↦ inr (omega arith) | inr h ↦ inl (omega arith) ]
one_of Sell p q = elim (cases_lt p q) [ inl h ↦ inl (omega arith) | inr h ↦ inr (omega arith) ]

module _ (by : Side) (l : ℕ) where
  -- an open order of the stock on the side has no better price than the best
  under_here : (e : ℕ × Order) (os : List (ℕ × Order)) → e.1.locate ≡ l → e.1.side ≡ by → Under by e.1.price (best by (orders_of (e ∷ os) l))
  under_here e os a b = rw (eq-eqb e.1.locate l a, b, on_side_same by) (under_first by e.1.price (best by (orders_of os l)))

  under_there : (e : ℕ × Order) (os : List (ℕ × Order)) (p : ℕ) → Under by p (best by (orders_of os l)) → Under by p (best by (orders_of (e ∷ os) l))
  under_there e os p h =
      elim (eqb e.1.locate l) as (λ t. Under by p (best by (cond t (e ∷ orders_of os l) (orders_of os l)))) [
        | true ↦ under_more by p (on_side by e.1.side) e.1.price (best by (orders_of os l)) h
        | false ↦ h
      ]

  all_under : (os : List (ℕ × Order)) (k : ℕ) (o : Order) → Open os l by k o → Under by o.price (best by (orders_of os l))
  all_under [] k o h = let e = h.there in absurd (let z : ◌≡◌ {A = ℕ} 0 1 = cc in omega arith)
  all_under (e ∷ os) k o h =
      elim (eqb_tells e.0 k) [
        | inl c ↦
            let s : e.1 ≡ o = some_same (rw c.0 at h.there) in
            let P : Order → Type 0 = λ v. Under by v.price (best by (orders_of (e ∷ os) l)) in
            subst P s (under_here e os (ap (λ (v : Order). v.locate) s ∙ h.its_stock) (ap (λ (v : Order). v.side) s ∙ h.its_side))
        | inr c ↦ under_there e os o.price (all_under os k o (record { there = rw c.0 at h.there; its_stock = h.its_stock; its_side = h.its_side }))
      ]
    where
      some_same : {a b : Order} → Some a ≡ Some b → a ≡ b
      some_same h = cc

  -- an open order of the stock on the side, at a price
  abbrev AtPrice : List (ℕ × Order) → ℕ → Type 0
  AtPrice os p = (k : ℕ) × (o : Order) × Open os l by k o × (o.price ≡ p)

  at_here : (e : ℕ × Order) (os : List (ℕ × Order)) → e.1.locate ≡ l → e.1.side ≡ by → AtPrice (e ∷ os) e.1.price
  at_here e os a b = (e.0, e.1, record { there = rw (eq-eqb e.0 e.0 refl); its_stock = a; its_side = b }, refl)

  at_there : (e : ℕ × Order) (os : List (ℕ × Order)) → From (suc e.0) os → (p : ℕ) → AtPrice os p → AtPrice (e ∷ os) p
  at_there e os f p h =
      elim (eqb_tells e.0 h.0) [
        | inl c ↦
            let n : at os h.0 ≡ None = absent (suc e.0) os f h.0 (omega arith) in
            let t = h.2.there in
            absurd (let z : ◌≡◌ {A = ℕ} 0 1 = cc in omega arith)
        | inr c ↦ (h.0, h.1, record { there = rw c.0 h.2.there; its_stock = h.2.its_stock; its_side = h.2.its_side }, h.3)
      ]

  -- an open order has the best price, if there is one
  abbrev Found : List (ℕ × Order) → Option ℕ → Type 0
  Found os None = Unit {0}
  Found os (Some p) = AtPrice os p

  found_there : (e : ℕ × Order) (os : List (ℕ × Order)) → From (suc e.0) os → (b : Option ℕ) → Found os b → Found (e ∷ os) b
  found_there e os f None h = tt
  found_there e os f (Some p) h = at_there e os f p h

  found_here : (e : ℕ × Order) (os : List (ℕ × Order)) → From (suc e.0) os → e.1.locate ≡ l → e.1.side ≡ by → (b : Option ℕ) → Found os b →
      AtPrice (e ∷ os) (better by e.1.price b)
  found_here e os f s t None h = at_here e os s t
  found_here e os f s t (Some q) h =
      elim (one_of by e.1.price q) [
        | inl c ↦ rw c (at_here e os s t)
        | inr c ↦ rw c (at_there e os f q h)
      ]

  best_there : (i : ℕ) (os : List (ℕ × Order)) → From i os → Found os (best by (orders_of os l))
  best_there i [] f = tt
  best_there i (e ∷ os) f =
      let r = best_there (suc e.0) os f.1 in
      elim (eqb_tells e.1.locate l) [
        | inl c ↦
            rw c.0 ((elim (on_side by e.1.side) as (λ t. on_side by e.1.side ≡ t → Found (e ∷ os) (cond t (Some (better by e.1.price (best by (orders_of os l)))) (best by (orders_of os l)))) [
              | true ↦ λ q. found_here e os f.1 c.1 (same_side by e.1.side q) (best by (orders_of os l)) r
              | false ↦ λ _. found_there e os f.1 (best by (orders_of os l)) r
            ]) refl)
        | inr c ↦ rw c.0 (found_there e os f.1 (best by (orders_of os l)) r)
      ]

  -- the shares at a price, over all open orders
  all_counted : (p : ℕ) (os : List (ℕ × Order)) → sum (shares_at by p) (orders_of os l) ≡ sum (counts l by p) os
  all_counted p [] = refl
  all_counted p (e ∷ os) =
      elim (eqb e.1.locate l) as (λ t. sum (shares_at by p) (cond t (e ∷ orders_of os l) (orders_of os l)) ≡ cond (t && (on_side by e.1.side && eqb e.1.price p)) e.1.shares 0 + sum (counts l by p) os) [
        | true ↦ ap (λ (n : ℕ). shares_at by p e.1 + n) (all_counted p os)
        | false ↦ omega (arith, all_counted p os)
      ]

  level_rule : (os : List (ℕ × Order)) (b : Option ℕ) → ((k : ℕ) (o : Order) → Open os l by k o → Under by o.price b) → Found os b →
      SideRule os l by (level by (orders_of os l) b)
  level_rule os None u h = u
  level_rule os (Some p) u h = record { none_better = u; one_there = h; all_shares = all_counted p os }

  side_rule : (os : List (ℕ × Order)) → Rising os → SideRule os l by (quoted by (orders_of os l))
  side_rule os f = level_rule os (best by (orders_of os l)) (all_under os) (best_there 0 os f)

pub levels_rule : (os : List (ℕ × Order)) (l : ℕ) → Rising os → LevelsRule os l (levels os l)
levels_rule os l f = record { to_buy = side_rule Buy l os f; to_sell = side_rule Sell l os f }
