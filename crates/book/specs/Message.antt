-- What a message says to the book.
use Rattle.std.specs.Prelude.{ℕ, cond, List, length, replicate, ◌==◌, slice_index_or}
use Rattle.wire.specs.Table.{Row, Value, figure, text}
use Rattle.wire.specs.declared.message.Feed.TheVariants.{Depth}
use Rattle.book.specs.declared.value.Listing.{Listing}
use Rattle.book.specs.declared.value.Side.{Side}
use Rattle.book.specs.declared.value.Side.TheVariants.{Buy, Sell}
use Rattle.book.specs.declared.value.TradingState.{TradingState}
use Rattle.book.specs.declared.value.TradingState.TheVariants.{Halted, Trading}
use Rattle.book.specs.declared.value.ShortSale.{ShortSale}
use Rattle.book.specs.declared.value.ShortSale.TheVariants.{NoPriceTest, Restricted, StillRestricted}

-- what a message is about
pub data Body : Type 0 where
  events : (letter : ℕ) → Body
  lists : (listing : Listing) → Body
  acts : (symbol : List ℕ) → (state : TradingState) → Body
  restricts : (symbol : List ℕ) → (restriction : ShortSale) → Body
  adds : (ref : ℕ) → (side : Side) → (shares price : ℕ) → (symbol : List ℕ) → Body
  executes : (ref shares match : ℕ) → Body
  cancels : (ref shares : ℕ) → Body
  deletes : (ref : ℕ) → Body
  replaces : (ref new shares price : ℕ) → Body
  corrects : (match new shares price : ℕ) → Body
  breaks : (match : ℕ) → Body
  foreign : Body  -- a message of another feed

-- a message: its stock's locate, its time stamp, and what it is about
pub data Msg : Type 0 where
  says : (locate stamp : ℕ) → Body → Msg

-- the value of field i as a number, and as a symbol's bytes

abbrev pub as_number : Value → ℕ
as_number (figure n) = n
as_number (text place s) = 0

abbrev pub as_text : Value → List ℕ
as_text (figure n) = replicate 8 32
as_text (text place s) = s

abbrev pub number_of : List Value → ℕ → ℕ
number_of vs i = as_number (slice_index_or vs i (figure 0))

abbrev pub text_of : List Value → ℕ → List ℕ
text_of vs i = as_text (slice_index_or vs i (figure 0))

-- a symbol as a book keeps it: its eight bytes (a decoded one has eight)
abbrev pub eight : List ℕ → List ℕ
eight s = cond (length s == 8) s (replicate 8 32)

-- B is buy, S sell
abbrev pub side_of : ℕ → Side
side_of c = cond (c == 66) Buy Sell

-- T is trading, H halted
abbrev pub state_of : ℕ → TradingState
state_of c = cond (c == 84) Trading Halted

-- 0 is no price test, 1 restricted, 2 still restricted
abbrev pub restriction_of : ℕ → ShortSale
restriction_of c = cond (c == 48) NoPriceTest (cond (c == 49) Restricted StillRestricted)

-- the body of a Depth message, by its letter; field 0 is the locate and field 1 the stamp
abbrev pub body : ℕ → List Value → Body
body k vs =
    cond (k == 83) (events (number_of vs 2))  -- S
    (cond (k == 82) (lists (record { symbol = eight (text_of vs 2); category = number_of vs 3; lot = number_of vs 4; authenticity = number_of vs 5 }))  -- R
    (cond (k == 72) (acts (text_of vs 2) (state_of (number_of vs 3)))  -- H
    (cond (k == 89) (restricts (text_of vs 2) (restriction_of (number_of vs 3)))  -- Y
    (cond (k == 65) (adds (number_of vs 2) (side_of (number_of vs 3)) (number_of vs 4) (number_of vs 6) (text_of vs 5))  -- A
    (cond (k == 69) (executes (number_of vs 2) (number_of vs 3) (number_of vs 4))  -- E
    (cond (k == 88) (cancels (number_of vs 2) (number_of vs 3))  -- X
    (cond (k == 68) (deletes (number_of vs 2))  -- D
    (cond (k == 85) (replaces (number_of vs 2) (number_of vs 3) (number_of vs 4) (number_of vs 5))  -- U
    (cond (k == 67) (corrects (number_of vs 2) (number_of vs 3) (number_of vs 4) (number_of vs 5))  -- C
    (cond (k == 66) (breaks (number_of vs 2)) foreign))))))))))  -- B

-- what a decoded message says
abbrev pub heard : Row × List Value → Msg
heard m = says (number_of m.1 0) (number_of m.1 1) (cond (m.0.on Depth) (body m.0.letter m.1) foreign)
