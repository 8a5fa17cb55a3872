-- The formats of the messages: one row for each, to be compared with the format by eye.
use Rattle.std.specs.Prelude.{ℕ, Bool, true, false, cond, ◌&&◌, List, [], ◌∷◌, Some, None, codes, Option, ◌==◌, slice_index}
use Prim.Native.String.{String}
pub use Rattle.codes.specs.Letters.{events, categories, authenticities, sides, states, restrictions}
use Rattle.wire.specs.declared.message.Feed.{Feed}
use Rattle.wire.specs.declared.message.Feed.TheVariants.{Depth, Bbbo, LastSale}

-- What the number in a field must be.
pub data Test : Type 0 where
  nought : Test  -- 0
  some : Test  -- above 0
  free : Test  -- anything
  one_of : List ℕ → Test  -- one of these codes
  within : ℕ → ℕ → Test  -- from the first to the second

-- A field: a number with its offset, its width in bytes and its test, or a symbol of eight bytes with its offset.
pub data Field : Type 0 where
  num : ℕ → ℕ → Test → Field
  symbol : ℕ → Field

-- What a field holds: a number, or a symbol's place in the message and its bytes.
pub data Value : Type 0 where
  figure : ℕ → Value
  text : ℕ → List ℕ → Value

-- A kind of message: its letter, the feeds that have it, its length, the test of its locate, the fields after the time stamp,
-- and the offsets of the price and the shares whose product is limited, where it is.
pub record Row : Type 0 where
  pub letter : ℕ
  pub on : Feed → Bool
  pub size : ℕ
  pub locate : Test
  pub fields : List Field
  pub limit : Option (ℕ × ℕ)

-- Every feed.
abbrev pub all : Feed → Bool
all f = true

-- Depth of Book alone.
abbrev pub depth : Feed → Bool
depth Depth = true
depth Bbbo = false
depth LastSale = false

-- Best Bid and Offer alone.
abbrev pub bbbo : Feed → Bool
bbbo Depth = false
bbbo Bbbo = true
bbbo LastSale = false

-- Last Sale alone.
abbrev pub last_sale : Feed → Bool
last_sale Depth = false
last_sale Bbbo = false
last_sale LastSale = true

-- A reference or match number: eight bytes, any number.
abbrev pub name : ℕ → Field
name at = num at 8 free

-- Four bytes, any number.
abbrev pub any : ℕ → Field
any at = num at 4 free

-- One byte, one of these letters.
abbrev pub code : ℕ → List ℕ → Field
code at letters = num at 1 (one_of letters)

-- Shares or a size: four bytes, from 1 to 1,000,000.
abbrev pub shares : ℕ → Field
shares at = num at 4 (within 1 1000000)

-- A price: eight bytes, from 1 to 2,000,000,000.
abbrev pub price : ℕ → Field
price at = num at 8 (within 1 2000000000)

-- A price of a quote: it may also be 0.
abbrev pub quoted : ℕ → Field
quoted at = num at 8 (within 0 2000000000)

-- A row, in the order of the format's columns.
abbrev pub row : String → (Feed → Bool) → ℕ → Test → List Field → Option (ℕ × ℕ) → Row
row s on size locate fields limit =
    record { letter = slice_index (codes s) 0; on = on; size = size; locate = locate; fields = fields; limit = limit }

-- Price times shares is not limited.
abbrev pub no_limit : Option (ℕ × ℕ)
no_limit = None

-- Price times shares is limited: the offset of the price, and of the shares.
abbrev pub limited : ℕ → ℕ → Option (ℕ × ℕ)
limited price shares = Some (price, shares)

-- An event of the day.
abbrev pub row_S : Row
row_S = row "S" all 12 nought (code 11 events ∷ []) no_limit

-- A stock's entry in the directory: stock, category, lot, authenticity.
abbrev pub row_R : Row
row_R = row "R" all 25 some (symbol 11 ∷ code 19 categories ∷ any 20 ∷ code 24 authenticities ∷ []) no_limit

-- A stock is halted or trades: stock, state.
abbrev pub row_H : Row
row_H = row "H" all 20 some (symbol 11 ∷ code 19 states ∷ []) no_limit

-- A stock's short sale restriction: stock, restriction.
abbrev pub row_Y : Row
row_Y = row "Y" all 20 some (symbol 11 ∷ code 19 restrictions ∷ []) no_limit

-- An order opens: reference, side, shares, stock, price.
abbrev pub row_A : Row
row_A = row "A" depth 40 some (name 11 ∷ code 19 sides ∷ shares 20 ∷ symbol 24 ∷ price 32 ∷ []) (limited 32 20)

-- An order is executed: reference, shares, match.
abbrev pub row_E : Row
row_E = row "E" depth 31 some (name 11 ∷ shares 19 ∷ name 23 ∷ []) no_limit

-- Shares of an order are cancelled: reference, shares.
abbrev pub row_X : Row
row_X = row "X" depth 23 some (name 11 ∷ shares 19 ∷ []) no_limit

-- An order leaves: reference.
abbrev pub row_D : Row
row_D = row "D" depth 19 some (name 11 ∷ []) no_limit

-- An order gives way to a new one: original, new reference, shares, price.
abbrev pub row_U : Row
row_U = row "U" depth 39 some (name 11 ∷ name 19 ∷ shares 27 ∷ price 31 ∷ []) (limited 31 27)

-- A trade gives way to a corrected one: match, new match, shares, price.
abbrev pub row_C : Row
row_C = row "C" depth 39 some (name 11 ∷ name 19 ∷ shares 27 ∷ price 31 ∷ []) (limited 31 27)

-- A trade is broken: match.
abbrev pub row_B : Row
row_B = row "B" depth 19 some (name 11 ∷ []) no_limit

-- A stock's best bid and offer: stock, bid price, bid size, offer price, offer size.
abbrev pub row_Q : Row
row_Q = row "Q" bbbo 43 some (symbol 11 ∷ quoted 19 ∷ any 27 ∷ quoted 31 ∷ any 39 ∷ []) no_limit

-- A sale: stock, match, price, size.
abbrev pub row_T : Row
row_T = row "T" last_sale 39 some (symbol 11 ∷ name 19 ∷ price 27 ∷ shares 35 ∷ []) (limited 27 35)

-- A sale is cancelled: as T.
abbrev pub row_sale_X : Row
row_sale_X = row "X" last_sale 39 some (symbol 11 ∷ name 19 ∷ price 27 ∷ shares 35 ∷ []) (limited 27 35)

-- All the rows.
abbrev pub table : List Row
table =
    row_S ∷ row_R ∷ row_H ∷ row_Y ∷ row_A ∷ row_E ∷ row_X ∷ row_D ∷ row_U ∷ row_C ∷ row_B ∷ row_Q ∷ row_T ∷ row_sale_X ∷ []

-- The first row with this letter in this feed.
abbrev pub find : List Row → Feed → ℕ → Option Row
find [] f k = None
find (r ∷ rs) f k = cond (k == r.letter && r.on f) (Some r) (find rs f k)

-- The fields of a row from the locate on: two bytes of locate, eight of time stamp, and its own.
abbrev pub every_field : Row → List Field
every_field r = num 1 2 r.locate ∷ num 3 8 free ∷ r.fields
