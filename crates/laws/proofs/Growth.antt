-- Sums over a stock's messages, from one moment of a run to a later one.
use Rattle.std.proofs.Common.{◌≡◌, ℕ, ◌+◌, true, false, cond, List, [], ◌∷◌, ◌++◌, Some, None, refl, ap, ◌∙◌, inl, inr, arith}
use Rattle.std.proofs.lemmas.Bool.{cases_Bool, eqb-true}
use Rattle.std.specs.Option.{ok_or}
use Rattle.store.specs.Held.{at, or_else}
use Rattle.book.specs.declared.fault.BookFault.TheVariants.{UnknownLocate}
use Rattle.book.specs.Book.{Book}
use Rattle.book.specs.Book as book
use Rattle.book.specs.Message.{Msg}
use Rattle.laws.specs.History.{locate_of, is_event, concerns, story, flow, dealt, total}
use Rattle.laws.specs.Laws.{sums_in, Since, earlier, between}
use Rattle.laws.specs.Runs.{Moment, begun, history, accepted_by, after_calls}
use Rattle.laws.proofs.Accepted.{Passed, taken}
use Rattle.laws.proofs.Everything.{flow_same, dealt_same}
use Rattle.laws.proofs.Own.{whole}
use Rattle.laws.proofs.Readings.{no_stock, sums}
use Rattle.laws.proofs.Runs.{Run, stays, takes, Reached, reached, calls_run, accepted_after}

-- summed over all of a stock's messages
abbrev whole_of : (List Msg → Msg → ℕ) → ℕ → List Msg → ℕ
whole_of f l [] = 0
whole_of f l (m ∷ h) = cond (concerns m l) (f h m) 0 + whole_of f l h

split : (f : List Msg → Msg → ℕ) (l : ℕ) (new old : List Msg) → whole_of f l (new ++ old) ≡ total f l new old + whole_of f l old
split f l [] old = omega arith
split f l (m ∷ new) old = omega (arith, split f l new old)

concerned : (m : Msg) (l : ℕ) → concerns m l ≡ true → locate_of m ≡ l
concerned m l e =
    elim (cases_Bool (is_event m)) [
      | inl q ↦ let n : false ≡ true = rw q at e in cc
      | inr q ↦ eqb-true (locate_of m) l (rw q at e)
    ]

-- f says the same of an accepted message, whether it looks back at all messages or at those of the stock
pub Local : (List Msg → Msg → ℕ) → Type 0
Local f = (b : Book) (h : List Msg) → Reached b h → (m : Msg) → Passed b m → f h m ≡ f (story (locate_of m) h) m

pub flow_local : (pick : ℕ × ℕ × ℕ → ℕ) → Local (λ h m. pick (flow h m))
unfolding Local
flow_local pick b h q m a = ap pick (flow_same b h q.everything.0 q.everything.1 q.stands m a)

pub dealt_local : (g : ℕ → ℕ → ℕ) (pick : ℕ × ℕ × ℕ × ℕ → ℕ) → Local (λ h m. pick (dealt g h m))
unfolding Local
dealt_local g pick b h q m a = ap pick (dealt_same b h q.everything.0 q.everything.1 q.stands g m a)

module _ (f : List Msg → Msg → ℕ) (same : Local f) (m : Moment) (l : ℕ) where
  whole_story : {h : List Msg} {b : Book} → Run (begun m) h b → whole_of f l h ≡ whole f (story l h)
  unfolding Local
  whole_story stays = refl
  whole_story (takes {h} {c = b} r x g d e) =
      let w = whole_story r in
      let q = reached m.stocks m.orders m.trades m.few_orders m.few_trades r in
      elim (cases_Bool (concerns x l)) [
        | inl i ↦
            let s : f h x ≡ f (story l h) x = same b h q x (taken b d q.stands.trades_rise x g e).1 ∙ ap (λ i. f (story i h) x) (concerned x l i) in
            rw i (omega arith)
        | inr i ↦ rw i (omega arith)
      ]

  -- all that a stock's messages say is what those since an earlier moment say, and those before it
  pub summed : (e : Since m) → whole f (story l (history m)) ≡ between m e l f + whole f (story l (history (earlier m e)))
  summed e =
      let a = whole_story (calls_run (begun m) e.old) in
      let z = whole_story (calls_run (begun m) m.calls) in
      let c : history m ≡ accepted_by (after_calls (begun m) e.old) e.new ++ accepted_by (begun m) e.old = ap (accepted_by (begun m)) e.cut ∙ accepted_after (begun m) e.new e.old in
      let s = ap (whole_of f l) c ∙ split f l (accepted_by (after_calls (begun m) e.old) e.new) (accepted_by (begun m) e.old) in
      omega arith

-- the sums in the reading are the book's
pub sums_are : (b : Book) (l : ℕ) → sums b l ≡ sums_in (book.stock b l 0)
sums_are b l = elim (at b.stocks.pairs l) as (λ o. (or_else no_stock o).sums ≡ sums_in (ok_or o (UnknownLocate 0))) [ None ↦ refl | Some s ↦ refl ]
