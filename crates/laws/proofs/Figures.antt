-- One stock's trades, the figures of those that are live, and its own messages.
use Rattle.std.proofs.Common.{◌≡◌, ℕ, ◌+◌, ◌-◌, ◌*◌, ◌≤◌, true, cond, eqb, List, ◌∷◌, Some, None, sym, ap, ◌∙◌, arith}
use Rattle.std.specs.Option.{option_map}
use Rattle.std.proofs.lemmas.Bool.{ne_eqb}
use Rattle.std.proofs.lemmas.Bool.Decides.{nat_tests}
use Rattle.store.specs.Held.{at, write, Rising}
use Rattle.store.specs.Sums.{sum}
use Rattle.store.proofs.Maps.{at-write, from-write, sum-write}
use Rattle.book.specs.declared.value.Order.{Order}
use Rattle.book.specs.declared.value.Trade.{Trade}
use Rattle.book.specs.declared.value.Standing.TheVariants.{Broken, Corrected}
use Rattle.book.specs.Message.{Msg, says, executes, corrects, breaks}
use Rattle.book.specs.Trades.{is_live}
use Rattle.laws.specs.History.{open_order, price_of, executed_of, standing_as, corrected_to, made_trade, worth, dealt, trading, breaking, correcting_from, correcting_to}
use Rattle.laws.proofs.Own.{whole}
use Rattle.laws.proofs.Tells.{opened_tells, made_tells}

-- a figure of a trade, where it is live
abbrev pub live_at : (ℕ → ℕ → ℕ) → Trade → ℕ
live_at g t = cond (is_live t.standing) (g t.shares t.price) 0

-- a figure summed over the live trades is what the messages executed and corrected to, less what they broke and corrected from
pub record Figure (g : ℕ → ℕ → ℕ) (x : ℕ) (ts : List (ℕ × Trade)) (h : List Msg) : Type 0 where
  pub sums : x ≡ sum (live_at g) ts
  pub balance : x + whole (breaking g) h + whole (correcting_from g) h ≡ whole (trading g) h + whole (correcting_to g) h

pub record Trades (n v u : ℕ) (ts : List (ℕ × Trade)) (h : List Msg) : Type 0 where
  pub rise : Rising ts
  pub looks : (k : ℕ) → at ts k ≡ made_trade h k
  pub lives : Figure (λ s p. 1) n ts h
  pub volumes : Figure (λ s p. s) v ts h
  pub turnovers : Figure (λ s p. p * s) u ts h

-- a number that is there is not one that is absent
apart : (ts : List (ℕ × Trade)) (k n : ℕ) (t : Trade) → at ts k ≡ Some t → at ts n ≡ None → k ≡ n → ⊥
apart ts k n t e u i = let z : ◌≡◌ {A = ℕ} 0 1 = cc (ap (at ts) i) in omega arith

module _ (g : ℕ → ℕ → ℕ) (x : ℕ) (ts : List (ℕ × Trade)) (h : List Msg) (rise : Rising ts) (f : Figure g x ts h) where
  figure_quiet : (m : Msg) → dealt g h m ≡ (0, 0, 0, 0) → Figure g x ts (m ∷ h)
  figure_quiet m still =
      let a : trading g h m ≡ 0 = ap (λ t. t.0) still in
      let b : breaking g h m ≡ 0 = ap (λ t. t.1) still in
      let c : correcting_from g h m ≡ 0 = ap (λ t. t.2) still in
      let d : correcting_to g h m ≡ 0 = ap (λ t. t.3) still in
      record { sums = f.sums; balance = omega (arith, f.balance) }

  figure_executes : (l stamp r s k : ℕ) (o : Order) → price_of h r ≡ o.price → at ts k ≡ None →
      Figure g (x + g s o.price) (write ts k (Some (executed_of s o))) (says l stamp (executes r s k) ∷ h)
  figure_executes l stamp r s k o e n =
      let v : g s (price_of h r) ≡ g s o.price = ap (g s) e in
      let w = rw n at (sum-write (live_at g) 0 ts rise k (Some (executed_of s o))) in
      let fs = f.sums in
      record { sums = omega arith; balance = omega (arith, f.balance, v) }

  -- a live trade's part of the sum, and what the messages say of it
  part : (k : ℕ) (t : Trade) → at ts k ≡ Some t → made_trade h k ≡ Some t → is_live t.standing ≡ true →
      (live_at g t ≡ g t.shares t.price) × (g t.shares t.price ≤ x) × (worth g h k ≡ g t.shares t.price)
  part k t e q v =
      let a : live_at g t ≡ g t.shares t.price = rw v in
      let s = rw e at (sum-write (live_at g) 0 ts rise k None) in
      (a, omega (arith, f.sums), made_tells g h k t q)

  figure_breaks : (l stamp k : ℕ) (t : Trade) → at ts k ≡ Some t → made_trade h k ≡ Some t → is_live t.standing ≡ true →
      Figure g (x - g t.shares t.price) (write ts k (Some (standing_as Broken t))) (says l stamp (breaks k) ∷ h)
  figure_breaks l stamp k t e q v =
      let a = part k t e q v in
      let w = rw e at (sum-write (live_at g) 0 ts rise k (Some (standing_as Broken t))) in
      let fs = f.sums in
      record { sums = omega arith; balance = omega (arith, f.balance) }

  figure_corrects : (l stamp k n s p : ℕ) (t : Trade) → at ts k ≡ Some t → made_trade h k ≡ Some t → is_live t.standing ≡ true → at ts n ≡ None →
      Figure g (x - g t.shares t.price + g s p)
      (write (write ts n (Some (corrected_to s p t))) k (Some (standing_as (Corrected n) t))) (says l stamp (corrects k n s p) ∷ h)
  figure_corrects l stamp k n s p t e q v u =
      let a = part k t e q v in
      let mid = write ts n (Some (corrected_to s p t)) in
      let there : at mid k ≡ Some t = at-write 0 ts rise n (Some (corrected_to s p t)) k ∙ rw (ne_eqb n k (λ i. apart ts k n t e u (sym i))) e in
      let w = rw u at (sum-write (live_at g) 0 ts rise n (Some (corrected_to s p t))) in
      let y = rw there at (sum-write (live_at g) 0 mid (from-write 0 ts rise n (Some (corrected_to s p t)) (omega arith)) k (Some (standing_as (Corrected n) t))) in
      let fs = f.sums in
      record { sums = omega arith; balance = omega (arith, f.balance) }

module _ (n v u : ℕ) (ts : List (ℕ × Trade)) (h : List Msg) (w : Trades n v u ts h) where
  -- a message that neither makes nor changes a trade
  pub trades_quiet : (m : Msg) → ((k : ℕ) → made_trade h k ≡ made_trade (m ∷ h) k) → ((g : ℕ → ℕ → ℕ) → dealt g h m ≡ (0, 0, 0, 0)) →
      Trades n v u ts (m ∷ h)
  trades_quiet m looks still =
      record {
        rise = w.rise;
        looks = λ k. w.looks k ∙ looks k;
        lives = figure_quiet (λ s p. 1) n ts h w.rise w.lives m (still (λ s p. 1));
        volumes = figure_quiet (λ s p. s) v ts h w.rise w.volumes m (still (λ s p. s));
        turnovers = figure_quiet (λ s p. p * s) u ts h w.rise w.turnovers m (still (λ s p. p * s));
      }

  pub trades_executes : (l stamp r s k : ℕ) (o : Order) → open_order h r ≡ Some o → at ts k ≡ None →
      Trades (n + 1) (v + s) (u + o.price * s) (write ts k (Some (executed_of s o))) (says l stamp (executes r s k) ∷ h)
  trades_executes l stamp r s k o e free =
      let price = (opened_tells h r o e).1 in
      record {
        rise = from-write 0 ts w.rise k (Some (executed_of s o)) (omega arith);
        looks = λ j. at-write 0 ts w.rise k (Some (executed_of s o)) j ∙ (λ i. cond (eqb k j) (option_map (executed_of s) (sym e i)) (w.looks j i));
        lives = figure_executes (λ s p. 1) n ts h w.rise w.lives l stamp r s k o price free;
        volumes = figure_executes (λ s p. s) v ts h w.rise w.volumes l stamp r s k o price free;
        turnovers = figure_executes (λ s p. p * s) u ts h w.rise w.turnovers l stamp r s k o price free;
      }

  made : (k : ℕ) (t : Trade) → at ts k ≡ Some t → made_trade h k ≡ Some t
  made k t e = sym (w.looks k) ∙ e

  pub trades_breaks : (l stamp k : ℕ) (t : Trade) → at ts k ≡ Some t → is_live t.standing ≡ true →
      Trades (n - 1) (v - t.shares) (u - t.price * t.shares) (write ts k (Some (standing_as Broken t))) (says l stamp (breaks k) ∷ h)
  trades_breaks l stamp k t e live =
      let q = made k t e in
      record {
        rise = from-write 0 ts w.rise k (Some (standing_as Broken t)) (omega arith);
        looks = λ j. at-write 0 ts w.rise k (Some (standing_as Broken t)) j ∙ (λ i. cond (eqb k j) (option_map (standing_as Broken) (sym q i)) (w.looks j i));
        lives = figure_breaks (λ s p. 1) n ts h w.rise w.lives l stamp k t e q live;
        volumes = figure_breaks (λ s p. s) v ts h w.rise w.volumes l stamp k t e q live;
        turnovers = figure_breaks (λ s p. p * s) u ts h w.rise w.turnovers l stamp k t e q live;
      }

  pub trades_corrects : (l stamp k j s p : ℕ) (t : Trade) → at ts k ≡ Some t → is_live t.standing ≡ true → at ts j ≡ None →
      Trades (n - 1 + 1) (v - t.shares + s) (u - t.price * t.shares + p * s)
      (write (write ts j (Some (corrected_to s p t))) k (Some (standing_as (Corrected j) t))) (says l stamp (corrects k j s p) ∷ h)
  trades_corrects l stamp k j s p t e live free =
      let q = made k t e in
      let mid = write ts j (Some (corrected_to s p t)) in
      let rise = from-write 0 ts w.rise j (Some (corrected_to s p t)) (omega arith) in
      record {
        rise = from-write 0 mid rise k (Some (standing_as (Corrected j) t)) (omega arith);
        looks = λ i.
            at-write 0 mid rise k (Some (standing_as (Corrected j) t)) i
            ∙ ap (cond (eqb k i) (Some (standing_as (Corrected j) t))) (at-write 0 ts w.rise j (Some (corrected_to s p t)) i) ∙ turned i
            ∙ (λ z. cond (eqb j i) (option_map (corrected_to s p) (sym q z)) (cond (eqb k i) (option_map (standing_as (Corrected j)) (sym q z)) (w.looks i z)));
        lives = figure_corrects (λ s p. 1) n ts h w.rise w.lives l stamp k j s p t e q live free;
        volumes = figure_corrects (λ s p. s) v ts h w.rise w.volumes l stamp k j s p t e q live free;
        turnovers = figure_corrects (λ s p. p * s) u ts h w.rise w.turnovers l stamp k j s p t e q live free;
      }
    where
      turned : (i : ℕ) → cond (eqb k i) (Some (standing_as (Corrected j) t)) (cond (eqb j i) (Some (corrected_to s p t)) (at ts i))
          ≡ cond (eqb j i) (Some (corrected_to s p t)) (cond (eqb k i) (Some (standing_as (Corrected j) t)) (at ts i))
      turned i = let d = apart ts k j t e free in grind (arith, nat_tests)
