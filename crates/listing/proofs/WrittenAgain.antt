-- What writing leaves in a buffer, held against bytes.
use Rattle.std.proofs.Common.{◌≡◌, ℕ, ◌≤◌, Bool, true, false, cond, List, ◌++◌, length, take, drop, Ok, Err, Decides, Result, sym, ap, ◌∙◌, arith, length-append, length-drop}
use Rattle.std.specs.Str.{bytes_eq}
use Rattle.std.proofs.lemmas.Slice.Eq.{bytes_eq-Decides}
use Rattle.std.proofs.lemmas.List.{take_at}
use Rattle.std.proofs.lemmas.Bool.Decides.{nat_tests, same_from_decides}
use Rattle.wire.specs.declared.fault.FieldsFault.{FieldsFault}
use Rattle.wire.specs.declared.fault.WireFault.{WireFault}
use Rattle.wire.specs.declared.message.Feed.{Feed}
use Rattle.wire.specs.Judging.{row_judged}
use Rattle.wire.specs.Layout.{bytes_of}
use Rattle.wire.specs.Table.{Row, Value}
use Rattle.encode.specs.Writing.{if_room, writing}
use Rattle.listing.specs.Rewriting.{gave, gives}

room_for : (size room n : ℕ) (b : Bool) (a : Result (Unit {0}) FieldsFault) (g : WireFault) → Ok n ≡ cond b (if_room a size room) (Err g) → n ≤ room
room_for size room n true (Ok u) g e = grind (arith, nat_tests)
room_for size room n true (Err h) g e = let z : ◌≡◌ {A = ℕ} 0 1 = cc in absurd (omega arith)
room_for size room n false a g e = let z : ◌≡◌ {A = ℕ} 0 1 = cc in absurd (omega arith)

-- what was written fits the buffer
pub writing_fits : (f : Feed) (m : Row × List Value) (room n : ℕ) → Ok n ≡ writing f m room → n ≤ room
writing_fits f m room n e = room_for m.0.size room n (m.0.on f) (row_judged m.0 m.1) _ e

-- the test on what was written is the one asked for
pub gives_is : (f : Feed) (m : Row × List Value) (bytes after old : List ℕ) (n : ℕ) (r : Bool) → length old ≡ 43 → length after ≡ 43 → Ok n ≡ writing f m 43 → after ≡ bytes_of m ++ drop n old → Decides r (take n after ≡ bytes) → r ≡ gives f m bytes
gives_is f m bytes after old n r l k e w d =
    let few = writing_fits f m 43 n e in
    let a = ap length w ∙ length-append (bytes_of m) (drop n old) in
    let b = length-drop n old in
    let long : length (bytes_of m) ≡ n = omega arith in
    let front : take n after ≡ bytes_of m = ap (take n) w ∙ take_at (bytes_of m) (drop n old) n long in
    let d' : Decides r (bytes_of m ≡ bytes) = (λ t. sym front ∙ d.0 t, λ s. d.1 (front ∙ s)) in
    same_from_decides r (bytes_eq (bytes_of m) bytes) d' (bytes_eq-Decides (bytes_of m) bytes)
    ∙ ap (λ (x : Result ℕ WireFault). gave x m bytes) e
