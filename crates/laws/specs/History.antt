-- What a list of accepted messages says, the newest first.
use Rattle.std.specs.Prelude.{ℕ, ◌+◌, ◌-◌, Bool, true, false, cond, List, [], ◌∷◌, ◌++◌, Some, None, Option, ◌==◌, nat_le}
use Rattle.std.specs.Option.{option_map}
use Rattle.book.specs.declared.value.Order.{Order}
use Rattle.book.specs.declared.value.Trade.{Trade}
use Rattle.book.specs.declared.value.Standing.{Standing}
use Rattle.book.specs.declared.value.Standing.TheVariants.{Live, Broken, Corrected}
use Rattle.book.specs.Message.{Msg, says, events, lists, acts, restricts, adds, executes, cancels, deletes, replaces, corrects, breaks, foreign}

-- the locate that a message names
abbrev pub locate_of : Msg → ℕ
locate_of (says l stamp x) = l

-- an event names no stock
abbrev pub is_event : Msg → Bool
is_event (says l stamp (events e)) = true
is_event (says l stamp (lists v)) = false
is_event (says l stamp (acts y v)) = false
is_event (says l stamp (restricts y v)) = false
is_event (says l stamp (adds r by s p y)) = false
is_event (says l stamp (executes r s k)) = false
is_event (says l stamp (cancels r s)) = false
is_event (says l stamp (deletes r)) = false
is_event (says l stamp (replaces r n s p)) = false
is_event (says l stamp (corrects k n s p)) = false
is_event (says l stamp (breaks k)) = false
is_event (says l stamp foreign) = false

-- whether a message is one of a stock's
abbrev pub concerns : Msg → ℕ → Bool
concerns m l = cond (is_event m) false (locate_of m == l)

-- one stock's messages
abbrev pub story : ℕ → List Msg → List Msg
story l [] = []
story l (m ∷ h) = cond (concerns m l) (m ∷ story l h) (story l h)

-- Shares added, executed and removed.

-- the shares of an order then open: those at its opening by A or U, less those of E and X since
abbrev pub left : List Msg → ℕ → ℕ
left [] r = 0
left (says l stamp (events e) ∷ h) r = left h r
left (says l stamp (lists v) ∷ h) r = left h r
left (says l stamp (acts y v) ∷ h) r = left h r
left (says l stamp (restricts y v) ∷ h) r = left h r
left (says l stamp (adds q by s p y) ∷ h) r = cond (q == r) s (left h r)
left (says l stamp (executes q s k) ∷ h) r = cond (q == r) (left h r - s) (left h r)
left (says l stamp (cancels q s) ∷ h) r = cond (q == r) (left h r - s) (left h r)
left (says l stamp (deletes q) ∷ h) r = left h r
left (says l stamp (replaces q n s p) ∷ h) r = cond (n == r) s (left h r)
left (says l stamp (corrects k n s p) ∷ h) r = left h r
left (says l stamp (breaks k) ∷ h) r = left h r
left (says l stamp foreign ∷ h) r = left h r

-- the price of an order: that of its opening by A or U
abbrev pub price_of : List Msg → ℕ → ℕ
price_of [] r = 0
price_of (says l stamp (events e) ∷ h) r = price_of h r
price_of (says l stamp (lists v) ∷ h) r = price_of h r
price_of (says l stamp (acts y v) ∷ h) r = price_of h r
price_of (says l stamp (restricts y v) ∷ h) r = price_of h r
price_of (says l stamp (adds q by s p y) ∷ h) r = cond (q == r) p (price_of h r)
price_of (says l stamp (executes q s k) ∷ h) r = price_of h r
price_of (says l stamp (cancels q s) ∷ h) r = price_of h r
price_of (says l stamp (deletes q) ∷ h) r = price_of h r
price_of (says l stamp (replaces q n s p) ∷ h) r = cond (n == r) p (price_of h r)
price_of (says l stamp (corrects k n s p) ∷ h) r = price_of h r
price_of (says l stamp (breaks k) ∷ h) r = price_of h r
price_of (says l stamp foreign ∷ h) r = price_of h r

-- the shares that a message adds, executes and removes; h is what came before it
abbrev pub flow : List Msg → Msg → ℕ × ℕ × ℕ
flow h (says l stamp (events e)) = (0, 0, 0)
flow h (says l stamp (lists v)) = (0, 0, 0)
flow h (says l stamp (acts y v)) = (0, 0, 0)
flow h (says l stamp (restricts y v)) = (0, 0, 0)
flow h (says l stamp (adds r by s p y)) = (s, 0, 0)
flow h (says l stamp (executes r s k)) = (0, s, 0)
flow h (says l stamp (cancels r s)) = (0, 0, s)
flow h (says l stamp (deletes r)) = (0, 0, left h r)
flow h (says l stamp (replaces r n s p)) = (s, 0, left h r)
flow h (says l stamp (corrects k n s p)) = (0, 0, 0)
flow h (says l stamp (breaks k)) = (0, 0, 0)
flow h (says l stamp foreign) = (0, 0, 0)

-- the shares that it adds
abbrev pub adding : List Msg → Msg → ℕ
adding h m = (flow h m).0

-- the shares that it executes
abbrev pub executing : List Msg → Msg → ℕ
executing h m = (flow h m).1

-- the shares that it removes
abbrev pub removing : List Msg → Msg → ℕ
removing h m = (flow h m).2

-- Figures of trades.

-- g is a figure of a trade, from its shares and its price
module _ (g : ℕ → ℕ → ℕ) where
  -- the figure of a trade as E or C made it; E takes the order's price
  abbrev pub worth : List Msg → ℕ → ℕ
  worth [] j = 0
  worth (says l stamp (events e) ∷ h) j = worth h j
  worth (says l stamp (lists v) ∷ h) j = worth h j
  worth (says l stamp (acts y v) ∷ h) j = worth h j
  worth (says l stamp (restricts y v) ∷ h) j = worth h j
  worth (says l stamp (adds q by s p y) ∷ h) j = worth h j
  worth (says l stamp (executes q s k) ∷ h) j = cond (k == j) (g s (price_of h q)) (worth h j)
  worth (says l stamp (cancels q s) ∷ h) j = worth h j
  worth (says l stamp (deletes q) ∷ h) j = worth h j
  worth (says l stamp (replaces q n s p) ∷ h) j = worth h j
  worth (says l stamp (corrects k n s p) ∷ h) j = cond (n == j) (g s p) (worth h j)
  worth (says l stamp (breaks k) ∷ h) j = worth h j
  worth (says l stamp foreign ∷ h) j = worth h j

  -- the figures of what a message executes and breaks, and of what it corrects, from and to; h is what came before it
  abbrev pub dealt : List Msg → Msg → ℕ × ℕ × ℕ × ℕ
  dealt h (says l stamp (events e)) = (0, 0, 0, 0)
  dealt h (says l stamp (lists v)) = (0, 0, 0, 0)
  dealt h (says l stamp (acts y v)) = (0, 0, 0, 0)
  dealt h (says l stamp (restricts y v)) = (0, 0, 0, 0)
  dealt h (says l stamp (adds r by s p y)) = (0, 0, 0, 0)
  dealt h (says l stamp (executes r s k)) = (g s (price_of h r), 0, 0, 0)
  dealt h (says l stamp (cancels r s)) = (0, 0, 0, 0)
  dealt h (says l stamp (deletes r)) = (0, 0, 0, 0)
  dealt h (says l stamp (replaces r n s p)) = (0, 0, 0, 0)
  dealt h (says l stamp (corrects k n s p)) = (0, 0, worth h k, g s p)
  dealt h (says l stamp (breaks k)) = (0, worth h k, 0, 0)
  dealt h (says l stamp foreign) = (0, 0, 0, 0)

  -- the figure of the trade that it makes by executing
  abbrev pub trading : List Msg → Msg → ℕ
  trading h m = (dealt h m).0

  -- the figure of the trade that it breaks
  abbrev pub breaking : List Msg → Msg → ℕ
  breaking h m = (dealt h m).1

  -- the figure of the trade that it corrects
  abbrev pub correcting_from : List Msg → Msg → ℕ
  correcting_from h m = (dealt h m).2

  -- the figure of the trade that it makes by correcting
  abbrev pub correcting_to : List Msg → Msg → ℕ
  correcting_to h m = (dealt h m).3

-- summed over a stock's newer messages, each after all that came before it
abbrev pub total : (List Msg → Msg → ℕ) → (locate : ℕ) → (new old : List Msg) → ℕ
total f l [] old = 0
total f l (m ∷ new) old = cond (concerns m l) (f (new ++ old) m) 0 + total f l new old

-- What the stores hold.

-- whether a directory message with this locate was accepted
abbrev pub listed : List Msg → ℕ → Bool
listed [] l = false
listed (says i stamp (events e) ∷ h) l = listed h l
listed (says i stamp (lists v) ∷ h) l = cond (i == l) true (listed h l)
listed (says i stamp (acts y v) ∷ h) l = listed h l
listed (says i stamp (restricts y v) ∷ h) l = listed h l
listed (says i stamp (adds r by s p y) ∷ h) l = listed h l
listed (says i stamp (executes r s k) ∷ h) l = listed h l
listed (says i stamp (cancels r s) ∷ h) l = listed h l
listed (says i stamp (deletes r) ∷ h) l = listed h l
listed (says i stamp (replaces r n s p) ∷ h) l = listed h l
listed (says i stamp (corrects k n s p) ∷ h) l = listed h l
listed (says i stamp (breaks k) ∷ h) l = listed h l
listed (says i stamp foreign ∷ h) l = listed h l

-- an order with so many shares fewer: at zero it leaves
abbrev pub less : Order → ℕ → Option Order
less o s = cond (nat_le o.shares s) None (Some (record { locate = o.locate; side = o.side; price = o.price; shares = o.shares - s }))

-- the same for an order that may not be there
abbrev pub lowered : ℕ → Option Order → Option Order
lowered s None = None
lowered s (Some o) = less o s

-- the order that stands in for another: locate and side are the same
abbrev pub renewed : ℕ → ℕ → Order → Order
renewed s p o = record { locate = o.locate; side = o.side; price = p; shares = s }

-- the open order under a reference: A opens it, E and X lower it, D takes it out, U takes the original out and opens the new one
abbrev pub open_order : List Msg → ℕ → Option Order
open_order [] r = None
open_order (says l stamp (events e) ∷ h) r = open_order h r
open_order (says l stamp (lists v) ∷ h) r = open_order h r
open_order (says l stamp (acts y v) ∷ h) r = open_order h r
open_order (says l stamp (restricts y v) ∷ h) r = open_order h r
open_order (says l stamp (adds q by s p y) ∷ h) r = cond (q == r) (Some (record { locate = l; side = by; price = p; shares = s })) (open_order h r)
open_order (says l stamp (executes q s k) ∷ h) r = cond (q == r) (lowered s (open_order h r)) (open_order h r)
open_order (says l stamp (cancels q s) ∷ h) r = cond (q == r) (lowered s (open_order h r)) (open_order h r)
open_order (says l stamp (deletes q) ∷ h) r = cond (q == r) None (open_order h r)
open_order (says l stamp (replaces q n s p) ∷ h) r =
    cond (n == r) (option_map (renewed s p) (open_order h q)) (cond (q == r) None (open_order h r))
open_order (says l stamp (corrects k n s p) ∷ h) r = open_order h r
open_order (says l stamp (breaks k) ∷ h) r = open_order h r
open_order (says l stamp foreign ∷ h) r = open_order h r

-- a trade as an execution of an order makes it: with the order's locate and price, live
abbrev pub executed_of : ℕ → Order → Trade
executed_of s o = record { locate = o.locate; price = o.price; shares = s; step = 0; standing = Live }

-- a trade with another standing
abbrev pub standing_as : Standing → Trade → Trade
standing_as w t = record { locate = t.locate; price = t.price; shares = t.shares; step = t.step; standing = w }

-- the trade that stands in for a corrected one: live, and a step higher
abbrev pub corrected_to : ℕ → ℕ → Trade → Trade
corrected_to s p t = record { locate = t.locate; price = p; shares = s; step = t.step + 1; standing = Live }

-- the trade under a match number: E makes it, C makes the named one corrected and the new one live, B breaks it
abbrev pub made_trade : List Msg → ℕ → Option Trade
made_trade [] j = None
made_trade (says l stamp (events e) ∷ h) j = made_trade h j
made_trade (says l stamp (lists v) ∷ h) j = made_trade h j
made_trade (says l stamp (acts y v) ∷ h) j = made_trade h j
made_trade (says l stamp (restricts y v) ∷ h) j = made_trade h j
made_trade (says l stamp (adds r by s p y) ∷ h) j = made_trade h j
made_trade (says l stamp (executes r s k) ∷ h) j = cond (k == j) (option_map (executed_of s) (open_order h r)) (made_trade h j)
made_trade (says l stamp (cancels r s) ∷ h) j = made_trade h j
made_trade (says l stamp (deletes r) ∷ h) j = made_trade h j
made_trade (says l stamp (replaces r n s p) ∷ h) j = made_trade h j
made_trade (says l stamp (corrects k n s p) ∷ h) j =
    cond (n == j) (option_map (corrected_to s p) (made_trade h k)) (cond (k == j) (option_map (standing_as (Corrected n)) (made_trade h k)) (made_trade h j))
made_trade (says l stamp (breaks k) ∷ h) j = cond (k == j) (option_map (standing_as Broken) (made_trade h k)) (made_trade h j)
made_trade (says l stamp foreign ∷ h) j = made_trade h j
