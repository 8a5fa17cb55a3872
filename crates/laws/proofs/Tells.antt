-- What the messages say of an order that is open, and of a trade that was made.
use Rattle.std.proofs.Common.{◌≡◌, ℕ, ◌-◌, true, false, cond, eqb, List, [], ◌∷◌, Some, None, Option, sym, refl, ap, ◌∙◌, inl, inr, arith}
use Rattle.std.specs.Option.{option_map}
use Rattle.std.proofs.lemmas.Bool.Decides.{eqb_tells, leb_tells}
use Rattle.store.specs.Held.{or_else}
use Rattle.book.specs.declared.value.Order.{Order}
use Rattle.book.specs.declared.value.Standing.{Standing}
use Rattle.book.specs.declared.value.Standing.TheVariants.{Broken, Corrected}
use Rattle.book.specs.declared.value.Trade.{Trade}
use Rattle.book.specs.Message.{Msg, says, events, lists, acts, restricts, adds, executes, cancels, deletes, replaces, corrects, breaks, foreign}
use Rattle.laws.specs.History.{left, price_of, worth, lowered, renewed, open_order, executed_of, standing_as, corrected_to, made_trade}
use Rattle.laws.proofs.Readings.{no_order, no_trade}

-- none is not one
no : {V P : Type 0} {v : V} → None ≡ Some v → P
no e = let z : ◌≡◌ {A = ℕ} 0 1 = cc in absurd (omega arith)

-- an order's shares and price are a and p
abbrev Is : ℕ → ℕ → Order → Type 0
Is a p o = (a ≡ o.shares) × (p ≡ o.price)

lowered_tells : (s a p : ℕ) (x : Option Order) (o : Order) → ((q : Order) → x ≡ Some q → Is a p q) → lowered s x ≡ Some o → Is (a - s) p o
lowered_tells s a p None o t e = no e
lowered_tells s a p (Some q) o t e =
    elim (leb_tells q.shares s) [
      | inl g ↦ let n : None ≡ Some o = rw g.0 at e in no n
      | inr g ↦
          let n = ap (or_else no_order) (rw g.0 at e) in
          let k = t q refl in
          (ap (λ x. x - s) k.0 ∙ ap (λ x. x.shares) n, k.1 ∙ ap (λ x. x.price) n)
    ]

renewed_tells : (s p : ℕ) (x : Option Order) (o : Order) → option_map (renewed s p) x ≡ Some o → Is s p o
renewed_tells s p None o e = no e
renewed_tells s p (Some q) o e = (ap (λ y. (or_else no_order y).shares) e, ap (λ y. (or_else no_order y).price) e)

pub opened_tells : (h : List Msg) (r : ℕ) (o : Order) → open_order h r ≡ Some o → Is (left h r) (price_of h r) o
opened_tells [] r o e = no e
opened_tells (says l stamp (events v) ∷ h) r o e = opened_tells h r o e
opened_tells (says l stamp (lists v) ∷ h) r o e = opened_tells h r o e
opened_tells (says l stamp (acts y v) ∷ h) r o e = opened_tells h r o e
opened_tells (says l stamp (restricts y v) ∷ h) r o e = opened_tells h r o e
opened_tells (says l stamp (adds q by s p y) ∷ h) r o e =
    (elim (eqb q r) as (λ t. cond t (Some (record { locate = l; side = by; price = p; shares = s })) (open_order h r) ≡ Some o → Is (cond t s (left h r)) (cond t p (price_of h r)) o) [
      | true ↦ λ x. (ap (λ y. (or_else no_order y).shares) x, ap (λ y. (or_else no_order y).price) x)
      | false ↦ opened_tells h r o
    ]) e
opened_tells (says l stamp (executes q s k) ∷ h) r o e =
    (elim (eqb q r) as (λ t. cond t (lowered s (open_order h r)) (open_order h r) ≡ Some o → Is (cond t (left h r - s) (left h r)) (price_of h r) o) [
      | true ↦ lowered_tells s (left h r) (price_of h r) (open_order h r) o (opened_tells h r)
      | false ↦ opened_tells h r o
    ]) e
opened_tells (says l stamp (cancels q s) ∷ h) r o e =
    (elim (eqb q r) as (λ t. cond t (lowered s (open_order h r)) (open_order h r) ≡ Some o → Is (cond t (left h r - s) (left h r)) (price_of h r) o) [
      | true ↦ lowered_tells s (left h r) (price_of h r) (open_order h r) o (opened_tells h r)
      | false ↦ opened_tells h r o
    ]) e
opened_tells (says l stamp (deletes q) ∷ h) r o e =
    (elim (eqb q r) as (λ t. cond t None (open_order h r) ≡ Some o → Is (left h r) (price_of h r) o) [ true ↦ λ x. no x | false ↦ opened_tells h r o ]) e
opened_tells (says l stamp (replaces q n s p) ∷ h) r o e =
    (elim (eqb n r) as (λ t. cond t (option_map (renewed s p) (open_order h q)) (cond (eqb q r) None (open_order h r)) ≡ Some o → Is (cond t s (left h r)) (cond t p (price_of h r)) o) [
      | true ↦ renewed_tells s p (open_order h q) o
      | false ↦ elim (eqb q r) as (λ t. cond t None (open_order h r) ≡ Some o → Is (left h r) (price_of h r) o) [ true ↦ λ x. no x | false ↦ opened_tells h r o ]
    ]) e
opened_tells (says l stamp (corrects k n s p) ∷ h) r o e = opened_tells h r o e
opened_tells (says l stamp (breaks k) ∷ h) r o e = opened_tells h r o e
opened_tells (says l stamp foreign ∷ h) r o e = opened_tells h r o e

module _ (g : ℕ → ℕ → ℕ) where
  -- a trade's figure
  abbrev figure_of : Trade → ℕ
  figure_of t = g t.shares t.price

  -- the figure in an answer
  told_figure : {t u : Trade} → Some t ≡ Some u → figure_of t ≡ figure_of u
  told_figure e = ap (λ o. figure_of (or_else no_trade o)) e

  executed_tells : (s p : ℕ) (x : Option Order) (t : Trade) → ((o : Order) → x ≡ Some o → p ≡ o.price) → option_map (executed_of s) x ≡ Some t → g s p ≡ figure_of t
  executed_tells s p None t h e = no e
  executed_tells s p (Some o) t h e = ap (g s) (h o refl) ∙ told_figure e

  corrected_tells : (s p : ℕ) (x : Option Trade) (t : Trade) → option_map (corrected_to s p) x ≡ Some t → g s p ≡ figure_of t
  corrected_tells s p None t e = no e
  corrected_tells s p (Some u) t e = told_figure e

  standing_tells : (w : Standing) (v : ℕ) (x : Option Trade) (t : Trade) → ((u : Trade) → x ≡ Some u → v ≡ figure_of u) → option_map (standing_as w) x ≡ Some t → v ≡ figure_of t
  standing_tells w v None t h e = no e
  standing_tells w v (Some u) t h e = h u refl ∙ told_figure e

  -- a trade that ends keeps its figure
  ended_tells : (h : List Msg) (w : Standing) (k j : ℕ) (t : Trade) → ((i : ℕ) (u : Trade) → made_trade h i ≡ Some u → worth g h i ≡ figure_of u) →
      cond (eqb k j) (option_map (standing_as w) (made_trade h k)) (made_trade h j) ≡ Some t → worth g h j ≡ figure_of t
  ended_tells h w k j t before e =
      elim (eqb_tells k j) [
        | inl q ↦
            let a : option_map (standing_as w) (made_trade h k) ≡ Some t = rw q.0 at e in
            ap (worth g h) (sym q.1) ∙ standing_tells w (worth g h k) (made_trade h k) t (before k) a
        | inr q ↦ let a : made_trade h j ≡ Some t = rw q.0 at e in before j t a
      ]

  pub made_tells : (h : List Msg) (j : ℕ) (t : Trade) → made_trade h j ≡ Some t → worth g h j ≡ figure_of t
  made_tells [] j t e = no e
  made_tells (says l stamp (events v) ∷ h) j t e = made_tells h j t e
  made_tells (says l stamp (lists v) ∷ h) j t e = made_tells h j t e
  made_tells (says l stamp (acts y v) ∷ h) j t e = made_tells h j t e
  made_tells (says l stamp (restricts y v) ∷ h) j t e = made_tells h j t e
  made_tells (says l stamp (adds r by s p y) ∷ h) j t e = made_tells h j t e
  made_tells (says l stamp (executes r s k) ∷ h) j t e =
      (elim (eqb k j) as (λ b. cond b (option_map (executed_of s) (open_order h r)) (made_trade h j) ≡ Some t → cond b (g s (price_of h r)) (worth g h j) ≡ figure_of t) [
        | true ↦ executed_tells s (price_of h r) (open_order h r) t (λ o q. (opened_tells h r o q).1)
        | false ↦ made_tells h j t
      ]) e
  made_tells (says l stamp (cancels r s) ∷ h) j t e = made_tells h j t e
  made_tells (says l stamp (deletes r) ∷ h) j t e = made_tells h j t e
  made_tells (says l stamp (replaces r n s p) ∷ h) j t e = made_tells h j t e
  made_tells (says l stamp (corrects k n s p) ∷ h) j t e =
      (elim (eqb n j) as (λ b. cond b (option_map (corrected_to s p) (made_trade h k)) (cond (eqb k j) (option_map (standing_as (Corrected n)) (made_trade h k)) (made_trade h j)) ≡ Some t → cond b (g s p) (worth g h j) ≡ figure_of t) [
        | true ↦ corrected_tells s p (made_trade h k) t
        | false ↦ ended_tells h (Corrected n) k j t (made_tells h)
      ]) e
  made_tells (says l stamp (breaks k) ∷ h) j t e = ended_tells h Broken k j t (made_tells h) e
  made_tells (says l stamp foreign ∷ h) j t e = made_tells h j t e
