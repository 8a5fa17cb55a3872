-- A stock's symbol: the rule, and the test that decides it.
use Rattle.std.specs.Prelude.{◌≡◌, ℕ, ◌<◌, ◌≤◌, Bool, true, false, cond, ◌&&◌, List, [], ◌∷◌, length, ◌==◌, nat_le, slice_index}

-- A byte from 0x21 to 0x7E.
abbrev pub Printable : ℕ → Type 0
Printable c = (0x21 ≤ c) × (c ≤ 0x7E)

-- The rule: one to eight bytes from 0x21 to 0x7E, followed only by spaces to eight.
abbrev pub SymbolRule : List ℕ → Type 0
SymbolRule s =
    (n : ℕ) × (1 ≤ n) × (n ≤ 8) × (length s ≡ 8)
    × ((i : ℕ) → i < n → Printable (slice_index s i))
    × ((i : ℕ) → n ≤ i → i < 8 → slice_index s i ≡ 0x20)

-- Is the byte printable?
abbrev pub printable : ℕ → Bool
printable c = nat_le 0x21 c && nat_le c 0x7E

-- Printable bytes, and from the first space on (or at once, where it has come) only spaces?
abbrev pub filled : Bool → List ℕ → Bool
filled ended [] = true
filled false (c ∷ cs) = cond (c == 0x20) (filled true cs) (printable c && filled false cs)
filled true (c ∷ cs) = c == 0x20 && filled true cs

-- Is this a symbol?
abbrev pub well_formed : List ℕ → Bool
well_formed s = length s == 8 && (printable (slice_index s 0) && filled false s)
