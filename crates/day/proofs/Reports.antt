-- The report stock by stock: what is left of it, how long it is, and where it stands in a buffer.
use Rattle.std.proofs.Common.{◌≡◌, ℕ, ◌+◌, ◌-◌, ◌<◌, ◌≤◌, Bool, false, leb, List, [], ◌∷◌, ◌++◌, length, take, drop, Ok, Err, Result, sym, refl, ap, ◌∙◌, append_assoc, arith, length-append, length-drop, length-take}
use Rattle.std.proofs.lemmas.List.{take_at, drop_at, take-append-drop}
use Rattle.std.proofs.lemmas.Bool.{lt-leb}
use Rattle.std.proofs.lemmas.Bool.Decides.{nat_tests}
use Rattle.text.specs.Line.{line, lines}
use Rattle.std.specs.Result.{IsOk}
use Rattle.text.specs.declared.TooShort.{TooShort}
use Rattle.text.specs.Placed.{Placed, written}
use Rattle.text.proofs.Writes.{Stands, stands_more}
use Rattle.book.specs.declared.value.Stock.{Stock}
use Rattle.book.specs.Report.{line_of, lines_of}

-- the text of some stocks
abbrev pub text_of : List (ℕ × Stock) → List ℕ
text_of ps = lines (lines_of ps)

abbrev pub line_at : ℕ × Stock → List ℕ
line_at p = line (line_of p.0 p.1)

less_room : (a n l : ℕ) → n ≤ l → leb a (l - n) ≡ leb (n + a) l
less_room a n l h = grind (arith, nat_tests)

-- a text cut in two: its front and the next piece, and the rest
cut : (r l rest : List ℕ) (a : ℕ) → a ≤ length r → drop a r ≡ l ++ rest → (take (a + length l) r ≡ take a r ++ l) × (drop (a + length l) r ≡ rest)
cut r l rest a h e =
    let split : r ≡ (take a r ++ l) ++ rest = sym (take-append-drop a r) ∙ ap (λ (t : List ℕ). take a r ++ t) e ∙ sym (append_assoc (take a r) l rest) in
    let long : length (take a r ++ l) ≡ a + length l = simp (length-append, length-take) (omega arith) in
    (ap (take (a + length l)) split ∙ take_at (take a r ++ l) rest (a + length l) long, ap (drop (a + length l)) split ∙ drop_at (take a r ++ l) rest (a + length l) long)

-- nothing is left
whole : (r : List ℕ) (a : ℕ) → a ≤ length r → drop a r ≡ [] → (a ≡ length r) × (take a r ≡ r)
whole r a h e =
    let n : length r - a ≡ 0 = sym (length-drop a r) ∙ ap length e in
    let all : take a r ++ [] ≡ r = ap (λ (t : List ℕ). take a r ++ t) (sym e) ∙ take-append-drop a r in
    (omega arith, sym (append_nil_of (take a r)) ∙ all)
  where
    append_nil_of : (xs : List ℕ) → xs ++ [] ≡ xs
    append_nil_of [] = refl
    append_nil_of (x ∷ xs) = ap (λ (t : List ℕ). x ∷ t) (append_nil_of xs)

-- l is the next line, and r what is left behind it
module _ (l r : List ℕ) (left needed : ℕ) (room : Bool) (is : needed ≡ length l) (inv : leb (length (l ++ r)) left ≡ room) where
  pub too_long : left < needed → false ≡ room
  too_long h = sym (lt-leb (length (l ++ r)) left (omega (arith, length-append l r))) ∙ inv

  pub fits_more : needed ≤ left → leb (length r) (left - needed) ≡ room
  fits_more h =
      less_room (length r) needed left h
      ∙ ap (λ (i : ℕ). leb (i + length r) left) is
      ∙ ap (λ (i : ℕ). leb i left) (sym (length-append l r)) ∙ inv

-- the front of the report stands in the buffer from s to at
module _ (report l r buf buf' : List ℕ) (s at end : ℕ) (low : s ≤ at) (high : at ≤ s + length report)
    (was : buf' ≡ written buf s (take (at - s) report)) (rest : drop (at - s) report ≡ l ++ r) where
  next_cut : (take (at - s + length l) report ≡ take (at - s) report ++ l) × (drop (at - s + length l) report ≡ r)
  next_cut = cut report l r (at - s) (omega arith) rest

  left_over : length report - (at - s) ≡ length l + length r
  left_over = sym (length-drop (at - s) report) ∙ ap length rest ∙ length-append l r

  pub has_room : at + length l ≤ s + length report
  has_room = omega (arith, left_over)

  module _ (room : s + length report ≤ length buf) (ends : end ≡ at + length l) (after : List ℕ) (put : after ≡ written buf' at l) where
    so : Stands buf s (take (at - s) report ++ l) after end
    so =
        let n : length (take (at - s) report) ≡ at - s = simp length-take (omega arith) in
        stands_more l after end (record { bytes = was; ends = omega arith }) (omega (arith, has_room)) put ends

    pub stands_on : after ≡ written buf s (take (end - s) report)
    stands_on =
        let n : at - s + length l ≡ end - s = omega arith in
        so.bytes ∙ ap (written buf s) (sym next_cut.0 ∙ ap (λ (i : ℕ). take i report) n)

    pub rest_on : drop (end - s) report ≡ r
    rest_on =
        let n : end - s ≡ at - s + length l = omega arith in
        ap (λ (i : ℕ). drop i report) n ∙ next_cut.1

-- the whole report stands in the buffer
pub stands_whole : (report buf after : List ℕ) (s at : ℕ) → s ≤ at → at ≤ s + length report → after ≡ written buf s (take (at - s) report) →
    drop (at - s) report ≡ [] → (at ≡ s + length report) × (after ≡ written buf s report)
stands_whole report buf after s at low high was none =
    let w = whole report (at - s) (omega arith) none in
    (omega arith, was ∙ ap (written buf s) w.1)

-- a text for which there is room is put
pub is_placed : (buf : List ℕ) (at : ℕ) (text after : List ℕ) (r : Result ℕ TooShort) → Placed buf at text after r → at + length text ≤ length buf → IsOk r
is_placed buf at text after (Ok end) p h = refl
is_placed buf at text after (Err e) p h = absurd (omega (arith, p.0))

pub placed_as : (buf : List ℕ) (at : ℕ) (text after : List ℕ) (r : Result ℕ TooShort) (end : ℕ) → Placed buf at text after r → r ≡ Ok end →
    (end ≡ at + length text) × (after ≡ written buf at text)
placed_as buf at text after (Ok k) end p e = let same : end ≡ k = cc in (same ∙ p.1, p.2)
placed_as buf at text after (Err f) end p e = absurd (let z : ◌≡◌ {A = ℕ} 0 1 = cc in omega arith)
