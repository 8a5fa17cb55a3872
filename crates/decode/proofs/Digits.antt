-- A number's bytes and the number of bytes, each the other's way back.
use Rattle.std.proofs.Common.{◌≡◌, ℕ, zero, suc, ◌+◌, ◌*◌, ◌/◌, ◌%◌, ◌^◌, ◌<◌, ◌≤◌, List, [], ◌∷◌, length, get_or, take, sym, refl, ap, ◌∙◌, ⊎_elim, pow-suc, add-one, arith}
use lib.Arith.{digits_div, digits_mod}
use Rattle.std.specs.Int.Digits.{number_from_digits}
use Rattle.std.proofs.lemmas.Int.Digits.{number_push, number_more}
use Rattle.std.proofs.lemmas.List.{length_push, length-take-le, take_more, length-take, take_all, get_or-take, get_or_past}
use Rattle.std.proofs.lemmas.Bool.{cases_lt}
use Rattle.wire.specs.Layout.{digits}
use Rattle.decode.specs.Decoding.{ByteString}

pub length_digits : (w n : ℕ) → length (digits w n) ≡ w
length_digits zero n = refl
length_digits (suc w) n = length_push (digits w (n / 256)) (n % 256) ∙ rw (length_digits w (n / 256)) (add-one w)

-- a number that fits so many bytes is the number of its bytes
pub number_digits : (w n : ℕ) → n < 256 ^ w → number_from_digits 256 (digits w n) ≡ n
number_digits zero n h = omega arith
number_digits (suc w) n h =
    let p : n < 256 ^ w * 256 = rw (← pow-suc 256 w) h in
    let q : n / 256 < 256 ^ w = omega arith in
    number_push 256 (digits w (n / 256)) (n % 256) ∙ rw (number_digits w (n / 256) q) (omega arith)

-- the first bytes of a byte string are one
pub front_bytes : (k : ℕ) (ds : List ℕ) → ByteString ds → ByteString (take k ds)
front_bytes k ds u i =
    ⊎_elim (λ (l : i < k). rw (get_or-take k ds i 0 l) (u i))
    (λ (g : k ≤ i). let past : length (take k ds) ≤ i = rw length-take (omega arith) in rw (get_or_past (take k ds) i 0 past) (omega arith))
    (cases_lt i k)

-- bytes are the bytes of their number
pub digits_number : (w : ℕ) (ds : List ℕ) → length ds ≡ w → ByteString ds → digits w (number_from_digits 256 ds) ≡ ds
digits_number zero [] l u = refl
digits_number zero (d ∷ ds) l u = absurd (omega arith)
digits_number (suc w) ds l u =
    let lt : w < length ds = omega arith in
    let all : take (w + 1) ds ≡ ds = take_all (w + 1) ds (omega arith) in
    let e : number_from_digits 256 ds ≡ number_from_digits 256 (take w ds) * 256 + get_or ds w 0 = sym (ap (number_from_digits 256) all) ∙ number_more 256 ds w lt in
    let ih : digits w (number_from_digits 256 (take w ds)) ≡ take w ds = digits_number w (take w ds) (length-take-le w ds (omega arith)) (front_bytes w ds u) in
    let q : number_from_digits 256 ds / 256 ≡ number_from_digits 256 (take w ds) = rw e (digits_div (number_from_digits 256 (take w ds)) (u w)) in
    let m : number_from_digits 256 ds % 256 ≡ get_or ds w 0 = rw e (digits_mod (number_from_digits 256 (take w ds)) (u w)) in
    rw (q, m, ih) (sym (take_more ds w 0 lt) ∙ all)
