-- Runs of accepted messages from a new book, and what holds of each book that is reached.
use Rattle.std.proofs.Common.{◌≡◌, ℕ, zero, suc, ◌+◌, ◌-◌, ◌≤◌, true, false, cond, ltb, List, [], ◌∷◌, ◌++◌, length, None, Ok, Err, Result, sym, refl, ap, ◌∙◌, subst, append_assoc, arith}
use Rattle.capture.specs.declared.fault.CaptureFault.{CaptureFault}
use Rattle.capture.specs.declared.fault.CaptureFault.TheVariants.{StartsPast}
use Rattle.capture.specs.Index.{judged, message, messages, count as index_count}
use Rattle.capture.proofs.Laid.{laid}
use Rattle.wire.specs.declared.fault.WireFault.{WireFault}
use Rattle.wire.specs.declared.message.Feed.TheVariants.{Depth}
use Rattle.wire.specs.Table.{Row, Value}
use Rattle.decode.specs.Decoding.{decoding}
use Rattle.book.specs.declared.fault.BookFault.{BookFault}
use Rattle.book.specs.declared.fault.PlayFault.{PlayFault}
use Rattle.book.specs.declared.fault.PlayFault.TheVariants.{Index, Message}
use Rattle.book.specs.Book.{Book, fresh, after}
use Rattle.book.specs.Feed.{feed, fed_as, lifted, count}
use Rattle.book.specs.Message.{Msg, heard}
use Rattle.book.specs.Play.{Played, go_on, played, played_as}
use Rattle.book.specs.Play as play
use Rattle.book.specs.Sums.{nothing}
use Rattle.laws.specs.Runs.{Call, feeds, plays, reads, called, said_as, said, all_said, fed_in, played_in, accepted_in, after_calls, accepted_by, Moment, book_of, history}
use Rattle.laws.proofs.Accepted.{taken}
use Rattle.laws.proofs.Chains.{Chained, nothing_there, chain_step}
use Rattle.laws.proofs.Everything.{Everything, everything_step}
use Rattle.laws.proofs.Fitting.{Fits, fits}
use Rattle.laws.proofs.Sized.{Sized, sized_fresh, sized_step, exact_step, steps_on}
use Rattle.laws.proofs.Stands.{Own, Stands, step}

-- from a book to a book by feeding, with the messages accepted on the way
pub data Run (b : Book) : List Msg → Book → Type 0 where
  stays : Run b [] b
  takes : {h : List Msg} {c : Book} → Run b h c → (m : Msg) → Fits m → (d : Book) → feed c m ≡ Ok d → Run b (m ∷ h) d

bare : Own nothing [] [] []
bare =
    record {
      orders = record {
        held = record { rise = tt; looks = λ r. refl; shares = refl; orders = refl };
        added = refl;
        executed = refl;
        removed = refl;
        balance = refl;
      };
      trades = record {
        rise = tt;
        looks = λ k. refl;
        lives = record { sums = refl; balance = refl };
        volumes = record { sums = refl; balance = refl };
        turnovers = record { sums = refl; balance = refl };
      };
    }

-- what holds of a book with its history
pub record Reached (b : Book) (h : List Msg) : Type 0 where
  pub stands : Stands b h
  pub sized : Sized b
  pub everything : Everything b h
  pub chained : Chained b.trades.pairs
  pub counted : b.accepted ≡ length h
  pub day : b.accepted ≤ 1000000000

module _ (s o m : ℕ) (few_orders : o ≤ 65536) (few_trades : m ≤ 65536) where
  pub reached : {h : List Msg} {b : Book} → Run (fresh s o m) h b → Reached b h
  reached stays =
      record {
        stands = record {
          stocks_rise = tt;
          orders_rise = tt;
          trades_rise = tt;
          listed = λ l. refl;
          known = λ l. refl;
          listing = λ l. refl;
          state = λ l. refl;
          restriction = λ l. refl;
          stamp = λ l. refl;
          own = λ l. bare;
        };
        sized = sized_fresh s o m few_orders few_trades;
        everything = (nothing, bare);
        chained = λ k t e. nothing_there None t refl e;
        counted = refl;
        day = omega arith;
      }
  reached (takes {h} {c = b} r m f d e) =
      let q = reached r in
      let z = q.stands in
      let t = taken b d z.trades_rise m f e in
      let up = steps_on b h z q.sized in
      let early = t.0 in
      subst (λ y. Reached y (m ∷ h)) t.2 (record {
        stands = step b h z m t.1 (exact_step b h z q.sized t.0 m t.1) up;
        sized = sized_step b h z q.sized m t.1;
        everything = everything_step b h q.everything.0 q.everything.1 m t.1 up;
        chained = chain_step b z.trades_rise q.chained m t.1 up;
        counted = omega (arith, q.counted);
        day = omega arith;
      })

module _ {a c : Book} {h : List Msg} (r : Run a h c) where
  -- one feed more, of bytes that decode or do not
  fed_once : (bytes : List ℕ) (m : Row × List Value) → decoding Depth bytes ≡ Ok m → (y : Result Book BookFault) → feed c (heard m) ≡ y →
      Run a (fed_in (heard m ∷ []) (count (lifted y)) ++ h) (after c (lifted y))
  fed_once bytes m e (Ok d) q = takes r (heard m) (fits bytes m e) d q
  fed_once bytes m e (Err f) q = r

  fed_by : (bytes : List ℕ) (x : Result (Row × List Value) WireFault) → decoding Depth bytes ≡ x →
      Run a (fed_in (said_as x) (count (fed_as c x)) ++ h) (after c (fed_as c x))
  fed_by bytes (Ok m) e = fed_once bytes m e (feed c (heard m)) refl
  fed_by bytes (Err f) e = r

-- how far playing came, of the k messages from a pair on: i were accepted, as the answer tells
abbrev Told : (pair k i : ℕ) → Result ℕ PlayFault → Type 0
Told pair k i (Ok n) = i ≡ k
Told pair k i (Err (Message q f)) = q ≡ pair + i
Told pair k i (Err (Index f)) = ⊥

told_more : (pair k i : ℕ) (x : Result ℕ PlayFault) → Told (pair + 1) k i x → Told pair (suc k) (suc i) x
told_more pair k i (Ok n) t = ap suc t
told_more pair k i (Err (Message q f)) t = omega arith
told_more pair k i (Err (Index f)) t = t

module _ (a : Book) (capture : List ℕ) where
  abbrev Came : List Msg → (pair k : ℕ) → Played → Type 0
  Came h pair k p = (i : ℕ) × Run a (all_said (messages capture pair i) ++ h) p.1 × Told pair k i p.0

  -- one message more
  came_more : (h : List Msg) (pair k : ℕ) (m : Msg) (p : Played) → said (message capture pair) ≡ m ∷ [] → Came (m ∷ h) (pair + 1) k p → Came h pair (suc k) p
  came_more h pair k m p e t =
      let more = all_said (messages capture (pair + 1) t.0) in
      let same : more ++ (m ∷ h) ≡ (more ++ said (message capture pair)) ++ h = ap (λ v. more ++ (v ++ h)) (sym e) ∙ sym (append_assoc more (said (message capture pair)) h) in
      (suc t.0, subst (λ v. Run a v p.1) same t.1, told_more pair k t.0 p.0 t.2)

  -- what is played after the message of a pair
  abbrev later : (pair n k : ℕ) → Book → Played
  later pair n k d = play.plays d (pair + 1) (n + 1) (messages capture (pair + 1) k)

  module _ (pair n k : ℕ) {h : List Msg} {c : Book} (r : Run a h c) (rest : (m : Msg) (d : Book) → Run a (m ∷ h) d → Came (m ∷ h) (pair + 1) k (later pair n k d)) where
    came_fed : (m : Row × List Value) → decoding Depth (message capture pair) ≡ Ok m → (y : Result Book BookFault) → feed c (heard m) ≡ y →
        Came h pair (suc k) (go_on c pair (lifted y) (later pair n k))
    came_fed m e (Ok d) q =
        came_more h pair k (heard m) (later pair n k d) (ap said_as e) (rest (heard m) d (takes r (heard m) (fits (message capture pair) m e) d q))
    came_fed m e (Err f) q = (0, r, omega arith)

    came_decoded : (x : Result (Row × List Value) WireFault) → decoding Depth (message capture pair) ≡ x → Came h pair (suc k) (go_on c pair (fed_as c x) (later pair n k))
    came_decoded (Ok m) e = came_fed m e (feed c (heard m)) refl
    came_decoded (Err f) e = (0, r, omega arith)

  came : (k pair n : ℕ) {h : List Msg} {c : Book} → Run a h c → Came h pair k (play.plays c pair n (messages capture pair k))
  came zero pair n r = (0, r, refl)
  came (suc k) pair n r = came_decoded pair n k r (λ m d q. came k (pair + 1) (n + 1) q) (decoding Depth (message capture pair)) refl

  module _ (start : ℕ) {h : List Msg} where
    -- the answer tells which messages were accepted
    tells_which : (n : ℕ) → n ≡ index_count capture → (p : Played) → Came h start (n - start) p → Run a (played_in capture start p.0 ++ h) p.1
    tells_which n all p t = by_answer p.0 t.2
      where
        -- so many as the answer tells
        these : (j : ℕ) → t.0 ≡ j → Run a (all_said (messages capture start j) ++ h) p.1
        these j e = subst (λ v. Run a (all_said (messages capture start v) ++ h) p.1) e t.1

        by_answer : (x : Result ℕ PlayFault) → Told start (n - start) t.0 x → Run a (played_in capture start x ++ h) p.1
        by_answer (Ok k) e = these (index_count capture - start) (e ∙ ap (λ v. v - start) all)
        by_answer (Err (Message q f)) e = these (q - start) (omega arith)
        by_answer (Err (Index f)) e = absurd e

    played_by : {c : Book} → Run a h c → (x : Result ℕ CaptureFault) → judged capture ≡ x →
        Run a (played_in capture start (played_as c capture start x).0 ++ h) (played_as c capture start x).1
    played_by {c} r (Err f) e = r
    played_by {c} r (Ok n) e =
        let on = play.plays c start 0 (messages capture start (n - start)) in
        let out : Played = (Err (Index (StartsPast start)), c) in
        elim (ltb n start) as (λ t. Run a (played_in capture start (cond t out on).0 ++ h) (cond t out on).1) [
          | true ↦ r
          | false ↦ tells_which n (laid capture (judged capture) refl n e).all on (came (n - start) start 0 r)
        ]

called_run : {a c : Book} {h : List Msg} → Run a h c → (x : Call) → Run a (accepted_in c x ++ h) (called c x)
called_run r (feeds bytes) = fed_by r bytes (decoding Depth bytes) refl
called_run {a} r (plays capture start) = played_by a capture start r (judged capture) refl
called_run r (reads v) = r

-- every list of calls is a run
pub calls_run : (a : Book) (cs : List Call) → Run a (accepted_by a cs) (after_calls a cs)
calls_run a [] = stays
calls_run a (c ∷ cs) = called_run (calls_run a cs) c

-- calls after calls
pub calls_after : (a : Book) (new old : List Call) → after_calls a (new ++ old) ≡ after_calls (after_calls a old) new
calls_after a [] old = refl
calls_after a (c ∷ new) old = ap (λ b. called b c) (calls_after a new old)

pub accepted_after : (a : Book) (new old : List Call) → accepted_by a (new ++ old) ≡ accepted_by (after_calls a old) new ++ accepted_by a old
accepted_after a [] old = refl
accepted_after a (c ∷ new) old =
    (λ i. accepted_in (calls_after a new old i) c ++ accepted_after a new old i)
    ∙ sym (append_assoc (accepted_in (after_calls (after_calls a old) new) c) (accepted_by (after_calls a old) new) (accepted_by a old))

pub reached_at : (m : Moment) → Reached (book_of m) (history m)
reached_at m = reached m.stocks m.orders m.trades m.few_orders m.few_trades (calls_run (fresh m.stocks m.orders m.trades) m.calls)
