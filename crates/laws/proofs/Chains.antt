-- Corrected trades: each names one that is there and is a step higher, so a walk through them ends.
use Rattle.std.proofs.Common.{◌≡◌, ℕ, ◌+◌, List, Some, None, Option, sym, refl, ap, ◌∙◌, subst, inl, inr, arith}
use Rattle.std.proofs.lemmas.Bool.{eq-eqb, ne_eqb}
use Rattle.std.proofs.lemmas.Bool.Decides.{eqb_tells}
use Rattle.store.specs.Held.{at, or_else, write, Rising}
use Rattle.store.proofs.Maps.{at-write, from-write, all-write}
use Rattle.book.specs.declared.value.Standing.TheVariants.{Live, Broken, Corrected}
use Rattle.book.specs.declared.value.Trade.{Trade}
use Rattle.book.specs.Book.{Book}
use Rattle.book.specs.Message.{Msg, says, events, lists, acts, restricts, adds, executes, cancels, deletes, replaces, corrects, breaks, foreign}
use Rattle.laws.specs.History.{executed_of, standing_as}
use Rattle.laws.proofs.After.{stepped, trades_after}
use Rattle.laws.proofs.Accepted.{Passed}
use Rattle.laws.proofs.Readings.{no_trade, order, trade}
use Rattle.laws.proofs.Stands.{StepsOn}

-- a trade is there under n, one step above s
abbrev pub Linked : List (ℕ × Trade) → ℕ → ℕ → Type 0
Linked ts s n = (u : Trade) × (at ts n ≡ Some u) × (u.step ≡ s + 1)

-- every corrected trade names such a one
abbrev pub Chained : List (ℕ × Trade) → Type 0
Chained ts = (k : ℕ) (t : Trade) → at ts k ≡ Some t → (n : ℕ) → t.standing ≡ Corrected n → Linked ts t.step n

pub nothing_there : {P : Type 0} (o : Option Trade) (u : Trade) → o ≡ None → o ≡ Some u → P
nothing_there o u p q = let z : ◌≡◌ {A = ℕ} 0 1 = cc in absurd (omega arith)

pub live_ends : {P : Type 0} (n : ℕ) → Live ≡ Corrected n → P
live_ends n e = let z : ◌≡◌ {A = ℕ} 0 1 = cc in absurd (omega arith)

pub broken_ends : {P : Type 0} (n : ℕ) → Broken ≡ Corrected n → P
broken_ends n e = let z : ◌≡◌ {A = ℕ} 0 1 = cc in absurd (omega arith)

one_answer : (o : Option Trade) (t u : Trade) → o ≡ Some t → o ≡ Some u → t ≡ u
one_answer o t u p q = ap (or_else no_trade) (sym p ∙ q)

-- a write that keeps the step of what it replaces
module _ (ts : List (ℕ × Trade)) (f : Rising ts) (k : ℕ) (new : Trade) (kept : (u : Trade) → at ts k ≡ Some u → new.step ≡ u.step) where
  link_write : (s n : ℕ) → Linked ts s n → Linked (write ts k (Some new)) s n
  link_write s n v =
      elim (eqb_tells k n) [
        | inl e ↦ (new, at-write 0 ts f k (Some new) n ∙ rw e.0, kept v.0 (ap (at ts) e.1 ∙ v.1) ∙ v.2)
        | inr e ↦ (v.0, at-write 0 ts f k (Some new) n ∙ rw e.0 v.1, v.2)
      ]

  chain_write : Chained ts → ((n : ℕ) → new.standing ≡ Corrected n → Linked (write ts k (Some new)) new.step n) → Chained (write ts k (Some new))
  chain_write c own =
      all-write (λ (v : Trade). (n : ℕ) → v.standing ≡ Corrected n → Linked (write ts k (Some new)) v.step n) ts f k (Some new)
      (λ j v q n s. link_write v.step n (c j v q n s))
      (λ v q. subst (λ (y : Trade). (n : ℕ) → y.standing ≡ Corrected n → Linked (write ts k (Some new)) y.step n) (ap (or_else no_trade) q) own)

module _ (b : Book) (f : Rising b.trades.pairs) (c : Chained b.trades.pairs) where
  pub chain_step : (m : Msg) → Passed b m → StepsOn b.trades.pairs → Chained (trades_after b m)
  chain_step (says l stamp (events v)) a up = c
  chain_step (says l stamp (lists v)) a up = c
  chain_step (says l stamp (acts y v)) a up = c
  chain_step (says l stamp (restricts y v)) a up = c
  chain_step (says l stamp (adds r by s p y)) a up = c
  chain_step (says l stamp (executes r s k)) a up =
      chain_write b.trades.pairs f k (executed_of s (order b r)) (λ u q. nothing_there (at b.trades.pairs k) u a.unused.free q) c (λ n e. live_ends n e)
  chain_step (says l stamp (cancels r s)) a up = c
  chain_step (says l stamp (deletes r)) a up = c
  chain_step (says l stamp (replaces r n s p)) a up = c
  chain_step (says l stamp (corrects k n s p)) a up =
      let ts = b.trades.pairs in
      let t = trade b k in
      let there = a.names.there in
      let new = stepped s p t in
      let old = standing_as (Corrected n) t in
      let mid = write ts n (Some new) in
      let rise : Rising mid = from-write 0 ts f n (Some new) (omega arith) in
      let apart : n ≡ k → ⊥ = λ i. nothing_there (at ts k) t (sym (ap (at ts) i) ∙ a.unused.free) there in
      let still : at mid k ≡ Some t = at-write 0 ts f n (Some new) k ∙ rw (ne_eqb n k apart) there in
      let here : at mid n ≡ Some new = at-write 0 ts f n (Some new) n ∙ rw (eq-eqb n n refl) in
      let first : Chained mid = chain_write ts f n new (λ u q. nothing_there (at ts n) u a.unused.free q) c (λ i e. live_ends i e) in
      let same : (u : Trade) → at mid k ≡ Some u → old.step ≡ u.step = λ u q. ap (λ (y : Trade). y.step) (one_answer (at mid k) t u still q) in
      let link : Linked (write mid k (Some old)) t.step n = link_write mid rise k old same t.step n (new, here, up k t there) in
      chain_write mid rise k old same first (λ i e. subst (Linked (write mid k (Some old)) t.step) (named n i e) link)
    where
      named : (n i : ℕ) → Corrected n ≡ Corrected i → n ≡ i
      named n i e = cc
  chain_step (says l stamp (breaks k)) a up =
      let t = trade b k in
      chain_write b.trades.pairs f k (standing_as Broken t) (λ u q. ap (λ (y : Trade). y.step) (one_answer (at b.trades.pairs k) t u a.there q)) c (λ n e. broken_ends n e)
  chain_step (says l stamp foreign) a up = c
