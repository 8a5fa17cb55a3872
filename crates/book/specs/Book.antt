-- What an engine holds, and the questions that a message must pass.
use Rattle.std.specs.Prelude.{ℕ, Bool, true, false, cond, List, [], Some, None, Ok, Err, Option, Result, ◌==◌}
use Rattle.std.specs.Option.{ok_or}
use Rattle.std.specs.Str.{bytes_eq}
use Rattle.store.specs.declared.PutRefusal.{PutRefusal}
use Rattle.store.specs.declared.PutRefusal.TheVariants.{Present, Full}
use Rattle.store.specs.Held.{Held, find, change}
use Rattle.book.specs.declared.fault.BookFault.{BookFault}
use Rattle.book.specs.declared.fault.BookFault.TheVariants.{NotDue, UnknownLocate, OtherSymbol, OtherLocate}
use Rattle.book.specs.declared.phase.Phase.{Phase}
use Rattle.book.specs.declared.phase.Phase.TheVariants.{Before, Started, System, Market, AfterMarket, AfterSystem, Over}
use Rattle.book.specs.declared.value.Stock.{Stock}
use Rattle.book.specs.declared.value.Order.{Order}
use Rattle.book.specs.declared.value.Trade.{Trade}
use Rattle.book.specs.declared.value.Sums.{Sums}

-- how far the day has come, how many messages were accepted, and what each store holds
pub record Book : Type 0 where
  pub phase : Phase
  pub accepted : ℕ
  pub stocks : Held Stock
  pub orders : Held Order
  pub trades : Held Trade

-- an engine as it is made, over stores of these capacities
abbrev pub fresh : ℕ → ℕ → ℕ → Book
fresh s o m =
    record { phase = Before; accepted = 0; stocks = record { pairs = []; places = s }; orders = record { pairs = []; places = o }; trades = record { pairs = []; places = m } }

-- a question after another: the first no refuses
abbrev pub then : {X Y : Type 0} → Result X BookFault → (X → Result Y BookFault) → Result Y BookFault
then (Ok x) f = f x
then (Err e) f = Err e

-- refused if the test says so
abbrev pub unless : Bool → BookFault → Result (Unit {0}) BookFault
unless true e = Err e
unless false e = Ok tt

-- a call's answer, where the message makes of the book b the book s or is refused
abbrev pub answer : Result Book BookFault → Result (Unit {0}) BookFault
answer (Ok b) = Ok tt
answer (Err e) = Err e

-- and the book after it: a refusal leaves it as it was
abbrev pub after : {E : Type 0} → Book → Result Book E → Book
after b (Ok b') = b'
after b (Err e) = b

-- whether messages other than events are taken: after the first event and before the last
abbrev pub taking : Phase → Bool
taking Before = false
taking Started = true
taking System = true
taking Market = true
taking AfterMarket = true
taking AfterSystem = true
taking Over = false

-- is a message other than an event due?
abbrev pub due : Phase → Result (Unit {0}) BookFault
due p = cond (taking p) (Ok tt) (Err (NotDue 0))

-- is the locate known?
abbrev pub stock : Book → ℕ → ℕ → Result Stock BookFault
stock b locate place = ok_or (find b.stocks locate) (UnknownLocate place)

-- both, for a message of a known stock
abbrev pub known : Book → ℕ → Result Stock BookFault
known b locate = then (due b.phase) (λ _. stock b locate 1)

-- is the symbol the stock's own?
abbrev pub owned : Stock → List ℕ → ℕ → Result (Unit {0}) BookFault
owned s symbol place = cond (bytes_eq s.listing.symbol symbol) (Ok tt) (Err (OtherSymbol place))

-- a store's answer to putting in, as the book's
abbrev pub placed : Result (Unit {0}) PutRefusal → BookFault → BookFault → Result (Unit {0}) BookFault
placed (Ok x) present full = Ok tt
placed (Err Present) present full = Err present
placed (Err Full) present full = Err full

-- is the order or the trade there, and has it this locate?
abbrev pub ours : {V : Type 0} → Option V → (V → ℕ) → ℕ → BookFault → Result V BookFault
ours None locate_of locate unknown = Err unknown
ours (Some v) locate_of locate unknown = cond (locate_of v == locate) (Ok v) (Err OtherLocate)

-- the stock under a locate with its new sums and time stamp
abbrev pub settle : Held Stock → ℕ → Stock → ℕ → Sums → Held Stock
settle h locate s stamp t =
    change h locate (record { listing = s.listing; state = s.state; restriction = s.restriction; stamp = stamp; sums = t })

-- the book with other stocks
abbrev pub with_stocks : Book → Held Stock → Book
with_stocks b h = record { phase = b.phase; accepted = b.accepted; stocks = h; orders = b.orders; trades = b.trades }
