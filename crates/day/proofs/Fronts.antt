-- A text at the front of a buffer.
use Rattle.std.proofs.Common.{◌≡◌, ℕ, ◌+◌, ◌<◌, ◌≤◌, List, ◌++◌, length, drop, Ok, Err, Result, refl, ap, ◌∙◌, arith, length-append}
use Rattle.std.proofs.lemmas.Bool.{le-leb, lt-leb}
use Rattle.std.proofs.lemmas.Bool.Decides.{nat_tests}
use Rattle.text.specs.declared.TooShort.{TooShort}
use Rattle.text.specs.Placed.{Placed, written}
use Rattle.text.proofs.Writes.{Stands, stands_more}
use Rattle.book.specs.declared.fault.BookFault.{BookFault}
use Rattle.book.specs.declared.fault.BookFault.TheVariants.{ShortBuffer}
use Rattle.day.specs.Texts.{texted, text_after}

-- what a call that writes a text to the front of a buffer ensures
abbrev pub Fronted : List ℕ → List ℕ → Result ℕ BookFault → List ℕ → Type 0
Fronted text buf r after = (r ≡ texted text buf) × (after ≡ text_after text buf)

pub short : (text buf : List ℕ) → length buf < length text → Fronted text buf (Err (ShortBuffer (length buf))) buf
short text buf l = rw (lt-leb (length text) (length buf) l) (refl, refl)

pub fronted : (text buf after : List ℕ) (n : ℕ) → length text ≤ length buf → n ≡ length text → after ≡ written buf 0 text → Fronted text buf (Ok n) after
fronted text buf after n l e w =
    let z : 0 + length text ≡ length text = omega arith in
    rw (le-leb (length text) (length buf) l) (ap (λ (i : ℕ). Ok i) e, w ∙ ap (λ (i : ℕ). text ++ drop i buf) z)

-- the same from a text placed at 0
pub fronted_at : (text buf after : List ℕ) (n : ℕ) → 0 + length text ≤ length buf → n ≡ 0 + length text → after ≡ written buf 0 text → Fronted text buf (Ok n) after
fronted_at text buf after n l e w = fronted text buf after n (omega arith) (omega arith) w

-- whatever placing it at 0 answered
pub placed_after : (text buf after : List ℕ) (r : Result ℕ TooShort) → Placed buf 0 text after r → after ≡ text_after text buf
placed_after text buf after (Ok n) p = (fronted_at text buf after n p.0 p.1 p.2).1
placed_after text buf after (Err e) p = p.1 ∙ (short text buf (omega (arith, p.0))).1

module _ (front rest buf : List ℕ) where
  pub short_of_both : length buf < length front + length rest → Fronted (front ++ rest) buf (Err (ShortBuffer (length buf))) buf
  short_of_both l = short (front ++ rest) buf (simp length-append (omega arith))

  pub both : (one two : List ℕ) (w n : ℕ) → w ≡ length front → w + length rest ≤ length buf → one ≡ written buf 0 front → n ≡ w + length rest → two ≡ written one w rest →
      Fronted (front ++ rest) buf (Ok n) two
  both one two w n width room put end more =
      let s : Stands buf 0 (front ++ rest) two n = stands_more rest two n (record { bytes = put; ends = omega arith }) room more end in
      let long : length (front ++ rest) ≡ length front + length rest = length-append front rest in
      fronted (front ++ rest) buf two n (omega arith) (omega arith) s.bytes

-- a text that was written ends within the buffer
pub ends_within : (text buf : List ℕ) (n : ℕ) → texted text buf ≡ Ok n → n ≤ length buf
ends_within text buf n e = grind (arith, nat_tests)
