-- What an accepted message has passed, and what it leaves.
use Rattle.std.proofs.Common.{◌≡◌, ℕ, ◌+◌, ◌<◌, ◌≤◌, true, false, Some, None, Ok, Err, Result, sym, refl, ◌∙◌, arith}
use Rattle.std.proofs.lemmas.Bool.Decides.{nat_tests}
use Rattle.store.specs.Held.{at, full, Rising}
use Rattle.store.proofs.Maps.{at-write}
use Rattle.book.specs.declared.fault.BookFault.{BookFault}
use Rattle.book.specs.Book.{Book}
use Rattle.book.specs.Feed.{act, counted, feed}
use Rattle.book.specs.Message.{Msg, says, events, lists, acts, restricts, adds, executes, cancels, deletes, replaces, corrects, breaks, foreign}
use Rattle.book.specs.Trades.{is_live}
use Rattle.laws.proofs.After.{stepped, after}
use Rattle.laws.proofs.Fitting.{Within, Fits}
use Rattle.laws.proofs.Readings.{stock, order, trade}

-- the stock is known
abbrev pub Known : Book → ℕ → Type 0
Known b l = at b.stocks.pairs l ≡ Some (stock b l)

pub record Adds (b : Book) (l r s p : ℕ) : Type 0 where
  pub known : Known b l
  pub fits : Within s p
  pub free : at b.orders.pairs r ≡ None
  pub room : full b.orders ≡ false

-- the order is open, and the stock's
pub record Open (b : Book) (l r : ℕ) : Type 0 where
  pub known : Known b l
  pub there : at b.orders.pairs r ≡ Some (order b r)
  pub its : (order b r).locate ≡ l

pub record Lowers (b : Book) (l r s : ℕ) : Type 0 where
  pub names : Open b l r
  pub fits : s ≤ 1000000
  pub enough : s ≤ (order b r).shares

-- the match number is new, and there is a place for its trade
pub record Unused (b : Book) (k : ℕ) : Type 0 where
  pub free : at b.trades.pairs k ≡ None
  pub room : full b.trades ≡ false

pub record Executes (b : Book) (l r s k : ℕ) : Type 0 where
  pub lowers : Lowers b l r s
  pub unused : Unused b k

pub record Replaces (b : Book) (l r n s p : ℕ) : Type 0 where
  pub names : Open b l r
  pub fits : Within s p
  pub free : at b.orders.pairs n ≡ None

-- the trade is live, and the stock's
pub record Lives (b : Book) (l k : ℕ) : Type 0 where
  pub known : Known b l
  pub there : at b.trades.pairs k ≡ Some (trade b k)
  pub its : (trade b k).locate ≡ l
  pub live : is_live (trade b k).standing ≡ true

pub record Corrects (b : Book) (l k n s p : ℕ) : Type 0 where
  pub names : Lives b l k
  pub fits : Within s p
  pub unused : Unused b n

abbrev pub Passed : Book → Msg → Type 0
Passed b (says l stamp (events v)) = Unit {0}
Passed b (says l stamp (lists v)) = Unit {0}
Passed b (says l stamp (acts y v)) = Known b l
Passed b (says l stamp (restricts y v)) = Known b l
Passed b (says l stamp (adds r by s p y)) = Adds b l r s p
Passed b (says l stamp (executes r s k)) = Executes b l r s k
Passed b (says l stamp (cancels r s)) = Lowers b l r s
Passed b (says l stamp (deletes r)) = Open b l r
Passed b (says l stamp (replaces r n s p)) = Replaces b l r n s p
Passed b (says l stamp (corrects k n s p)) = Corrects b l k n s p
Passed b (says l stamp (breaks k)) = Lives b l k
Passed b (says l stamp foreign) = ⊥

-- the book after a message, with the message counted
abbrev with_count : Book → Book → Book
with_count b y = record { phase = y.phase; accepted = b.accepted + 1; stocks = y.stocks; orders = y.orders; trades = y.trades }

module _ (b y : Book) where
  abbrev Taken : Msg → Type 0
  Taken m = Passed b m × (with_count b y ≡ after b m)

  by_act : Rising b.trades.pairs → (m : Msg) → Fits m → act b m ≡ Ok y → Taken m
  by_act f (says l stamp (events v)) a e = (tt, grind (arith, nat_tests))
  by_act f (says l stamp (lists v)) a e = (tt, grind (arith, nat_tests))
  by_act f (says l stamp (acts symbol v)) a e = (grind (arith, nat_tests), grind (arith, nat_tests))
  by_act f (says l stamp (restricts symbol v)) a e = (grind (arith, nat_tests), grind (arith, nat_tests))
  by_act f (says l stamp (adds r by s p symbol)) a e =
      (record { known = grind (arith, nat_tests); fits = a; free = grind (arith, nat_tests); room = grind (arith, nat_tests) }, grind (arith, nat_tests))
  by_act f (says l stamp (executes r s k)) a e = (
    record {
      lowers = record {
        names = record { known = grind (arith, nat_tests); there = grind (arith, nat_tests); its = grind (arith, nat_tests) };
        fits = a;
        enough = grind (arith, nat_tests);
      };
      unused = record { free = grind (arith, nat_tests); room = grind (arith, nat_tests) };
    },
    grind (arith, nat_tests),
  )
  by_act f (says l stamp (cancels r s)) a e = (
    record {
      names = record { known = grind (arith, nat_tests); there = grind (arith, nat_tests); its = grind (arith, nat_tests) };
      fits = a;
      enough = grind (arith, nat_tests);
    },
    grind (arith, nat_tests),
  )
  by_act f (says l stamp (deletes r)) a e =
      (record { known = grind (arith, nat_tests); there = grind (arith, nat_tests); its = grind (arith, nat_tests) }, grind (arith, nat_tests))
  by_act f (says l stamp (replaces r n s p)) a e = (
    record {
      names = record { known = grind (arith, nat_tests); there = grind (arith, nat_tests); its = grind (arith, nat_tests) };
      fits = a;
      free = grind (arith, nat_tests);
    },
    grind (arith, nat_tests),
  )
  by_act f (says l stamp (corrects k n s p)) a e =
      -- the old trade is still there once the new one is put in
      let w = at-write 0 b.trades.pairs f n (Some (stepped s p (trade b k))) k in (
        record {
          names = record { known = grind (arith, nat_tests); there = grind (arith, nat_tests); its = grind (arith, nat_tests); live = grind (arith, nat_tests) };
          fits = a;
          unused = record { free = grind (arith, nat_tests); room = grind (arith, nat_tests) };
        },
        grind (arith, nat_tests),
      )
  by_act f (says l stamp (breaks k)) a e = (
    record { known = grind (arith, nat_tests); there = grind (arith, nat_tests); its = grind (arith, nat_tests); live = grind (arith, nat_tests) },
    grind (arith, nat_tests),
  )
  by_act f (says l stamp foreign) a e = absurd (let z : ◌≡◌ {A = ℕ} 0 1 = cc in omega arith)

acted : (b d : Book) (x : Result Book BookFault) → counted b x ≡ Ok d → (b.accepted < 1000000000) × ((y : Book) × (x ≡ Ok y) × (with_count b y ≡ d))
acted b d (Ok y) e = (grind (arith, nat_tests), (y, refl, grind (arith, nat_tests)))
acted b d (Err f) e = (grind (arith, nat_tests), grind (arith, nat_tests))

-- an accepted message has passed its questions, and leaves the book as it says
pub taken : (b d : Book) → Rising b.trades.pairs → (m : Msg) → Fits m → feed b m ≡ Ok d →
    (b.accepted < 1000000000) × Passed b m × (after b m ≡ d)
taken b d r m f e =
    let a = acted b d (act b m) e in
    let t = by_act b a.1.0 r m f a.1.1 in
    (a.0, t.0, sym t.1 ∙ a.1.2)
