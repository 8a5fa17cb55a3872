-- Levels joined from the front are those of all orders at once.
use Rattle.std.proofs.Common.{◌≡◌, ℕ, ◌+◌, true, false, cond, ◌&&◌, eqb, ◌⊎◌, List, [], ◌∷◌, Some, None, Option, sym, refl, ap, ◌∙◌, inl, inr, arith}
use Rattle.std.proofs.lemmas.Bool.{cases_order, eq-eqb, ne_eqb, lt-ltb, le-ltb}
use Rattle.std.proofs.lemmas.Bool.Decides.{nat_tests}
use Rattle.store.specs.Sums.{sum}
use Rattle.book.specs.declared.value.Level.{Level}
use Rattle.book.specs.declared.value.Order.{Order}
use Rattle.book.specs.declared.value.Quote.{Quote}
use Rattle.book.specs.declared.value.Side.{Side}
use Rattle.book.specs.declared.value.Side.TheVariants.{Buy, Sell}
use Rattle.book.specs.Quote.{orders_of, on_side, better, best, shares_at, level, quoted}
use Rattle.quotes.specs.Levels.{levels, beats, joined, alone, on, with_order}

-- p is better than the best price, if there is one
abbrev Above : Side → ℕ → Option ℕ → Type 0
Above by p None = Unit {0}
Above by p (Some q) = beats by p q ≡ true

above_both : (by : Side) (p q : ℕ) (o : Option ℕ) → beats by p (better by q o) ≡ true → (beats by p q ≡ true) × Above by p o
above_both Buy p q None h = (h, tt)
above_both Buy p q (Some r) h = (grind (arith, nat_tests), grind (arith, nat_tests))
above_both Sell p q None h = (h, tt)
above_both Sell p q (Some r) h = (grind (arith, nat_tests), grind (arith, nat_tests))

not_same : (by : Side) (p q : ℕ) → beats by p q ≡ true → eqb q p ≡ false
not_same Buy p q h = grind (arith, nat_tests)
not_same Sell p q h = grind (arith, nat_tests)

-- above the best price there are no shares
no_shares : (by : Side) (p : ℕ) (os : List (ℕ × Order)) → Above by p (best by os) → sum (shares_at by p) os ≡ 0
no_shares by p [] h = refl
no_shares by p (e ∷ os) h =
    (elim (on_side by e.1.side) as (λ t. Above by p (cond t (Some (better by e.1.price (best by os))) (best by os)) → cond (t && eqb e.1.price p) e.1.shares 0 + sum (shares_at by p) os ≡ 0) [
      | true ↦ λ a. let b = above_both by p e.1.price (best by os) a in
          rw (not_same by p e.1.price b.0, no_shares by p os b.1)
      | false ↦ λ a. rw (no_shares by p os a)
    ]) h

-- what joins nothing stays
settled : (by : Side) (a : Option Level) → joined by a None ≡ a
settled by None = refl
settled by (Some v) = refl

-- three levels join in either order
pub joined_assoc : (by : Side) (a : Option Level) (v : Level) (b : Option Level) → joined by (joined by a (Some v)) b ≡ joined by a (joined by (Some v) b)
joined_assoc by None v b = refl
joined_assoc by (Some u) v None = settled by (joined by (Some u) (Some v))
joined_assoc Buy (Some u) v (Some w) = grind (arith, nat_tests)
joined_assoc Sell (Some u) v (Some w) = grind (arith, nat_tests)

-- two prices: the same, the first better, or the second
pub record Same (by : Side) (p q : ℕ) : Type 0 where
  pub equal : p ≡ q
  pub one : better by p (Some q) ≡ q

pub record First (by : Side) (p q : ℕ) : Type 0 where
  pub wins : beats by p q ≡ true
  pub loses : beats by q p ≡ false
  pub apart : eqb q p ≡ false
  pub one : better by p (Some q) ≡ p

pub record Second (by : Side) (p q : ℕ) : Type 0 where
  pub wins : beats by q p ≡ true
  pub apart : eqb q p ≡ false
  pub apart_too : eqb p q ≡ false
  pub one : better by p (Some q) ≡ q

either : (by : Side) (p q : ℕ) → Same by p q ⊎ (First by p q ⊎ Second by p q)
either Buy p q =
    elim (cases_order p q) [
      | inl e ↦ inl (record { equal = e; one = omega arith })
      | inr (inl h) ↦ inr (inr (record { wins = lt-ltb p q h; apart = ne_eqb q p (λ e. omega arith); apart_too = ne_eqb p q (λ e. omega arith); one = omega arith }))
      | inr (inr h) ↦ inr (inl (record { wins = lt-ltb q p h; loses = le-ltb p q (omega arith); apart = ne_eqb q p (λ e. omega arith); one = omega arith }))
    ]
either Sell p q =
    elim (cases_order p q) [
      | inl e ↦ inl (record { equal = e; one = omega arith })
      | inr (inl h) ↦ inr (inl (record { wins = lt-ltb p q h; loses = le-ltb q p (omega arith); apart = ne_eqb q p (λ e. omega arith); one = omega arith }))
      | inr (inr h) ↦ inr (inr (record { wins = lt-ltb q p h; apart = ne_eqb q p (λ e. omega arith); apart_too = ne_eqb p q (λ e. omega arith); one = omega arith }))
    ]

abbrev with_shares : ℕ → ℕ → Option Level
with_shares p n = Some (record { price = p; shares = n })

-- the first order of a side and the rest
level_more : (by : Side) (o : Order) (os : List (ℕ × Order)) (b : Option ℕ) → best by os ≡ b →
    with_shares (better by o.price b) (cond (eqb o.price (better by o.price b)) o.shares 0 + sum (shares_at by (better by o.price b)) os) ≡ joined by (alone o) (level by os b)
level_more by o os None e =
    let a : Above by o.price (best by os) = rw e tt in
    rw (eq-eqb o.price o.price refl) (ap (with_shares o.price) (omega (arith, no_shares by o.price os a)))
level_more by o os (Some q) e =
    elim (either by o.price q) [
      | inl c ↦ rw (c.one, eq-eqb o.price q c.equal, eq-eqb q o.price (sym c.equal))
      | inr (inl c) ↦
          let a : Above by o.price (best by os) = rw e c.wins in
          rw (c.one, eq-eqb o.price o.price refl, c.apart, c.loses) (ap (with_shares o.price) (omega (arith, no_shares by o.price os a)))
      | inr (inr c) ↦ rw (c.one, c.apart_too, c.apart, c.wins) (ap (with_shares q) (omega arith))
    ]

quoted_more : (by : Side) (e : ℕ × Order) (os : List (ℕ × Order)) → on_side by e.1.side ≡ true → quoted by (e ∷ os) ≡ joined by (alone e.1) (quoted by os)
quoted_more by e os h = rw (h, h) (level_more by e.1 os (best by os) refl)

quoted_other : (by : Side) (e : ℕ × Order) (os : List (ℕ × Order)) → on_side by e.1.side ≡ false → quoted by (e ∷ os) ≡ quoted by os
quoted_other by e os h =
    rw h (elim (best by os) as (λ b. level by (e ∷ os) b ≡ level by os b) [
      | None ↦ refl
      | Some p ↦ rw h (ap (with_shares p) (omega arith))
    ])

-- an order joins the side that it is on
side_more : (by : Side) (a : Option Level) (e : ℕ × Order) (os : List (ℕ × Order)) → on_side by e.1.side ≡ true →
    joined by (joined by a (alone e.1)) (quoted by os) ≡ joined by a (quoted by (e ∷ os))
side_more by a e os h = joined_assoc by a (record { price = e.1.price; shares = e.1.shares }) (quoted by os) ∙ ap (joined by a) (sym (quoted_more by e os h))

-- two quotes of one stock as one
abbrev pub both : Quote → Quote → Quote
both q r = record { bid = joined Buy q.bid r.bid; offer = joined Sell q.offer r.offer }

abbrev made : List (ℕ × Order) → Quote
made os = record { bid = quoted Buy os; offer = quoted Sell os }

-- an order of the stock, by its side
on_more : (q : Quote) (e : ℕ × Order) (os : List (ℕ × Order)) (by : Side) → e.1.side ≡ by → both (on q e.1 by) (made os) ≡ both q (made (e ∷ os))
on_more q e os Buy s =
    let b = side_more Buy q.bid e os (rw s refl) in
    let o = ap (joined Sell q.offer) (sym (quoted_other Sell e os (rw s refl))) in
    λ i. record { bid = b i; offer = o i }
on_more q e os Sell s =
    let b = ap (joined Buy q.bid) (sym (quoted_other Buy e os (rw s refl))) in
    let o = side_more Sell q.offer e os (rw s refl) in
    λ i. record { bid = b i; offer = o i }

-- an order joins the quote of a stock
pub with_more : (q : Quote) (l : ℕ) (e : ℕ × Order) (os : List (ℕ × Order)) → both (with_order q l e.1) (levels os l) ≡ both q (levels (e ∷ os) l)
with_more q l e os =
    elim (eqb e.1.locate l) as (λ t. both (cond t (on q e.1 e.1.side) q) (made (orders_of os l)) ≡ both q (made (cond t (e ∷ orders_of os l) (orders_of os l)))) [
      | true ↦ on_more q e (orders_of os l) e.1.side refl
      | false ↦ refl
    ]

-- a quote and nothing more
pub with_none : (q : Quote) (l : ℕ) → both q (levels [] l) ≡ q
with_none q l = let b = settled Buy q.bid in let o = settled Sell q.offer in λ i. record { bid = b i; offer = o i }
