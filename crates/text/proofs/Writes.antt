-- One text written after another.
use Rattle.std.proofs.Common.{◌≡◌, ℕ, ◌+◌, ◌≤◌, List, [], ◌++◌, length, take, drop, sym, ap, ◌∙◌, append_assoc, arith, length-append, length-take}
use Rattle.std.proofs.lemmas.List.{take_at, drop_at, drop-drop, take-append-drop}
use Rattle.text.specs.Placed.{written}

-- the front of the buffer and the text make up the front for the next text
module _ (buf text next : List ℕ) (at : ℕ) (room : at + length text + length next ≤ length buf) where
  front : List ℕ
  front = take at buf ++ text

  split : written buf at text ≡ front ++ drop (at + length text) buf
  unfolding front
  split = simp append_assoc

  length_front : length front ≡ at + length text
  unfolding front
  length_front = simp (length-append, length-take) (omega arith)

  before : take (at + length text) (written buf at text) ≡ front
  before = rw split (take_at front _ _ length_front)

  behind : drop (at + length text + length next) (written buf at text) ≡ drop (at + length (text ++ next)) buf
  behind =
      let e : at + length text + length next ≡ at + length (text ++ next) = simp length-append (omega arith) in
      rw (← drop-drop (length next) (at + length text) (written buf at text), split, drop_at front (drop (at + length text) buf) (at + length text) length_front, drop-drop) (ap (λ (k : ℕ). drop k buf) e)

  pub written_more : written (written buf at text) (at + length text) next ≡ written buf at (text ++ next)
  unfolding front
  written_more = ap (λ (xs : List ℕ). xs ++ (next ++ drop (at + length text + length next) (written buf at text))) before ∙ ap (λ (xs : List ℕ). front ++ (next ++ xs)) behind ∙ simp append_assoc

-- the text stands in the buffer from `from` to `end`, and every other byte is as it was
pub record Stands (buf : List ℕ) (from : ℕ) (text after : List ℕ) (end : ℕ) : Type 0 where
  pub bytes : after ≡ written buf from text
  pub ends : end ≡ from + length text

pub stands_none : (buf : List ℕ) (from : ℕ) → Stands buf from [] buf from
stands_none buf from =
    let e : from + 0 ≡ from = omega arith in
    record { bytes = sym (take-append-drop from buf) ∙ ap (λ (k : ℕ). take from buf ++ drop k buf) (sym e); ends = sym e }

-- the next text where it ends
pub stands_more : {buf text was : List ℕ} {from at : ℕ} (next after : List ℕ) (end : ℕ) → Stands buf from text was at → at + length next ≤ length buf → after ≡ written was at next → end ≡ at + length next → Stands buf from (text ++ next) after end
stands_more {buf} {text} {was} {from} {at} next after end so room e f =
    let ends = so.ends in
    let whole : written was at next ≡ written buf from (text ++ next) =
    ap (λ (b : List ℕ). written b at next) so.bytes ∙ ap (λ (k : ℕ). written (written buf from text) k next) ends
    ∙ written_more buf text next from (omega arith) in
    record { bytes = e ∙ whole; ends = simp length-append (omega arith) }

-- the same text, put together otherwise
pub stands_as : {buf text after : List ℕ} {from end : ℕ} (other : List ℕ) → Stands buf from text after end → text ≡ other → Stands buf from other after end
stands_as {buf} {text} {after} {from} {end} other so e =
    record { bytes = so.bytes ∙ ap (written buf from) e; ends = so.ends ∙ ap (λ (t : List ℕ). from + length t) e }
