-- A walk through corrections: it comes to the last trade before its bound.
use Rattle.std.proofs.Common.{◌≡◌, ℕ, zero, suc, ◌+◌, ◌<◌, ◌≤◌, true, List, is_some, Some, None, Option, sym, refl, ap, ◌∙◌, subst, arith}
use Rattle.store.specs.Held.{Held, at}
use Rattle.book.specs.declared.value.Standing.{Standing}
use Rattle.book.specs.declared.value.Standing.TheVariants.{Live, Broken, Corrected}
use Rattle.book.specs.declared.value.Trade.{Trade}
use Rattle.book.specs.Message.{Msg}
use Rattle.book.specs.Trace.{End, stand, look, walk}
use Rattle.laws.specs.History.{made_trade}
use Rattle.laws.specs.Laws.{CorrectedInto, Leads, Ends}
use Rattle.laws.proofs.Chains.{Chained, live_ends, broken_ends}
use Rattle.laws.proofs.Sized.{count}

module _ (h : Held Trade) (past : List Msg) (looks : (k : ℕ) → at h.pairs k ≡ made_trade past k) (c : Chained h.pairs)
    (low : (k : ℕ) (t : Trade) → at h.pairs k ≡ Some t → t.step < count h.pairs) where
  -- a walk from n after k steps that came to an end
  abbrev Walked : ℕ → ℕ → Option End → Type 0
  Walked n k None = ⊥
  Walked n k (Some e) =
      (i : ℕ) × (e.2 ≡ k + i) × Leads past i n e.0 × ((t : Trade) × (made_trade past e.0 ≡ Some t) × (t.standing ≡ e.1)) × ((j : ℕ) → e.1 ≡ Corrected j → ⊥)

  -- one step more at its front
  walk_more : (n m k : ℕ) → CorrectedInto past n m → (o : Option End) → Walked m (k + 1) o → Walked n k o
  walk_more n m k v None w = w
  walk_more n m k v (Some e) w = (suc w.0, omega (arith, w.1), (m, v, w.2), w.3, w.4)

  walk_on : (n k : ℕ) (t : Trade) → at h.pairs n ≡ Some t → (on : ℕ → Option End) → ((m : ℕ) → t.standing ≡ Corrected m → Walked m (k + 1) (on m)) →
      (s : Standing) → t.standing ≡ s → Walked n k (stand n k s on)
  walk_on n k t e on rest Live q = (0, omega arith, refl, (t, sym (looks n) ∙ e, q), λ j i. live_ends j i)
  walk_on n k t e on rest Broken q = (0, omega arith, refl, (t, sym (looks n) ∙ e, q), λ j i. broken_ends j i)
  walk_on n k t e on rest (Corrected m) q = walk_more n m k (t, sym (looks n) ∙ e, q) (on m) (rest m q)

  -- each trade on the way is a step higher, and no step is as high as there are trades
  walks : (f n k : ℕ) (t : Trade) → at h.pairs n ≡ Some t → count h.pairs ≤ f + t.step → Walked n k (walk h f n k)
  walks zero n k t e room = absurd (omega (arith, low n t e))
  walks (suc f) n k t e room =
      subst (λ o. Walked n k (look n k o (λ m. walk h f m (k + 1)))) (sym e)
      (walk_on n k t e (λ m. walk h f m (k + 1))
      (λ m q. let v = c n t e m q in let up = v.2 in walks f m (k + 1) v.0 v.1 (omega arith))
      t.standing refl)

  walk_nowhere : (f n k : ℕ) → at h.pairs n ≡ None → walk h f n k ≡ None
  walk_nowhere zero n k e = refl
  walk_nowhere (suc f) n k e = ap (λ o. look n k o (λ m. walk h f m (k + 1))) e

  walked_some : (n k : ℕ) (o : Option End) → Walked n k o → is_some o ≡ true
  walked_some n k None w = absurd w
  walked_some n k (Some e) w = refl

  walked_ends : (n : ℕ) (e : End) → Walked n 0 (Some e) → Ends past n e
  walked_ends n e w =
      let same : w.0 ≡ e.2 = omega (arith, w.1) in
      record { leads = subst (λ i. Leads past i n e.0) same w.2; stands = w.3; last = w.4 }

  -- with a bound of all trades
  module _ (f n : ℕ) (all : count h.pairs ≤ f) where
    pub walk_answers : (o : Option Trade) → at h.pairs n ≡ o → is_some (walk h f n 0) ≡ is_some (made_trade past n)
    walk_answers None e = ap is_some (walk_nowhere f n 0 e) ∙ ap is_some (sym e ∙ looks n)
    walk_answers (Some t) e = walked_some n 0 (walk h f n 0) (walks f n 0 t e (omega arith)) ∙ ap is_some (sym e ∙ looks n)

    pub walk_ends : (o : Option Trade) → at h.pairs n ≡ o → (e : End) → walk h f n 0 ≡ Some e → Ends past n e
    walk_ends None e x q = let z : ◌≡◌ {A = ℕ} 0 1 = cc (sym (walk_nowhere f n 0 e) ∙ q) in absurd (omega arith)
    walk_ends (Some t) e x q = walked_ends n x (subst (Walked n 0) q (walks f n 0 t e (omega arith)))
