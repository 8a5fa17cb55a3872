-- What is decoded writes the same bytes.
use Rattle.std.proofs.Common.{◌≡◌, ℕ, ◌+◌, ◌≤◌, min, Bool, true, false, cond, eqb, List, [], ◌∷◌, ◌++◌, length, drop, Some, None, Ok, Err, Option, Result, sym, refl, subst, arith, take-append-drop}
use Rattle.std.proofs.lemmas.List.{drop-drop, length-take-le, length-drop, get_or-drop, drop_all}
use Rattle.std.proofs.lemmas.Bool.{and_parts, eqb-true}
use Rattle.wire.specs.declared.fault.BytesFault.TheVariants.{WrongLength}
use Rattle.wire.specs.declared.fault.FieldsFault.{FieldsFault}
use Rattle.wire.specs.declared.fault.WireFault.TheVariants.{Bytes}
use Rattle.wire.specs.declared.message.Feed.{Feed}
use Rattle.wire.specs.Judging.{row_judged}
use Rattle.wire.specs.Layout.{fields_bytes, bytes_of}
use Rattle.wire.specs.Table.{Row, Field, num, symbol, Value, table, every_field}
use Rattle.decode.specs.Decoding.{part, values, find, if_passed, checked, by_row, decoding, ByteString}
use Rattle.decode.proofs.Digits.{digits_number, front_bytes}
use Rattle.decode.proofs.Whole.{offset, width, gapless, in_table}

-- one field more without a gap
pub follows : (f : Field) (fs : List Field) (at end : ℕ) → gapless at (f ∷ fs) end ≡ true → (offset f ≡ at) × (gapless (at + width f) fs end ≡ true)
follows f fs at end g =
    let h = and_parts (eqb (offset f) at) (gapless (at + width f) fs end) g in
    (eqb-true (offset f) at h.0, h.1)

ends_after : (fs : List Field) (at end : ℕ) → gapless at fs end ≡ true → at ≤ end
ends_after [] at end g = let e = eqb-true at end g in omega arith
ends_after (num k w t ∷ fs) at end g = let ih = ends_after fs (at + w) end (follows (num k w t) fs at end g).1 in omega arith
ends_after (symbol k ∷ fs) at end g = let ih = ends_after fs (at + 8) end (follows (symbol k) fs at end g).1 in omega arith

module _ (bs : List ℕ) (bytes : ByteString bs) where
  length_part : (at w : ℕ) → at + w ≤ length bs → length (part at w bs) ≡ w
  length_part at w h = length-take-le w (drop at bs) (rw length-drop (omega arith))

  bytes_part : (at w : ℕ) → ByteString (part at w bs)
  bytes_part at w = front_bytes w (drop at bs) (λ i. rw get_or-drop (bytes (at + i)))

  part_drop : (at w : ℕ) → part at w bs ++ drop (at + w) bs ≡ drop at bs
  part_drop at w = rw (← drop-drop w at bs) (take-append-drop w (drop at bs))

  fields_back : (fs : List Field) (at : ℕ) → gapless at fs (length bs) ≡ true → fields_bytes fs (values bs fs) ≡ drop at bs
  fields_back [] at g = let e = eqb-true at (length bs) g in sym (drop_all at bs (omega arith))
  fields_back (num k w t ∷ fs) at g =
      let p = follows (num k w t) fs at (length bs) g in
      let e : k ≡ at = p.0 in
      let h : at + w ≤ length bs = ends_after fs (at + w) (length bs) p.1 in
      rw (e, digits_number w (part at w bs) (length_part at w h) (bytes_part at w), fields_back fs (at + w) p.1) (part_drop at w)
  fields_back (symbol k ∷ fs) at g =
      let p = follows (symbol k) fs at (length bs) g in
      let e : k ≡ at = p.0 in
      rw (e, fields_back fs (at + 8) p.1) (part_drop at 8)

passed_as : (a : Result (Unit {0}) FieldsFault) (x y : Row × List Value) → if_passed a x ≡ Ok y → x ≡ y
passed_as (Ok u) x y e = cc
passed_as (Err g) x y e = cc

-- an accepted message's row, length and values
pub accepted_as : (o : Option Row) (bs : List ℕ) (m : Row × List Value) → by_row o bs ≡ Ok m →
    (o ≡ Some m.0) × ((length bs ≡ m.0.size) × (values bs (every_field m.0) ≡ m.1))
accepted_as None bs m e = let z : ◌≡◌ {A = ℕ} 0 1 = cc in absurd (omega arith)
accepted_as (Some r) bs m e = go (eqb (length bs) r.size) refl e
  where
    go : (b : Bool) → eqb (length bs) r.size ≡ b →
        cond b (checked r (values bs (every_field r))) (Err (Bytes (WrongLength (min (length bs) r.size)))) ≡ Ok m →
        (Some r ≡ Some m.0) × ((length bs ≡ m.0.size) × (values bs (every_field m.0) ≡ m.1))
    go true t e =
        let same : ◌≡◌ {A = Row × List Value} (r, values bs (every_field r)) m = passed_as (row_judged r (values bs (every_field r))) (r, values bs (every_field r)) m e in
        subst (λ (x : Row × List Value). (Some r ≡ Some x.0) × ((length bs ≡ x.0.size) × (values bs (every_field x.0) ≡ x.1))) same
        (refl, (eqb-true (length bs) r.size t, refl))
    go false t e = let z : ◌≡◌ {A = ℕ} 0 1 = cc in absurd (omega arith)

pub writes_back : (f : Feed) (bs : List ℕ) (m : Row × List Value) → ByteString bs → decoding f bs ≡ Ok m → bytes_of m ≡ bs
writes_back f [] m b e = let z : ◌≡◌ {A = ℕ} 0 1 = cc in absurd (omega arith)
writes_back f (k ∷ bs) m b e =
    let t = accepted_as (find table f k) (k ∷ bs) m e in
    let w = in_table f k m.0 t.0 in
    let g : gapless 1 (every_field m.0) (length (k ∷ bs)) ≡ true = subst (λ (n : ℕ). gapless 1 (every_field m.0) n ≡ true) (sym t.1.0) w.0 in
    let back = fields_back (k ∷ bs) b (every_field m.0) 1 g in
    let same : fields_bytes (every_field m.0) m.1 ≡ bs = subst (λ (vs : List Value). fields_bytes (every_field m.0) vs ≡ bs) t.1.1 back in
    let letter : m.0.letter ≡ k = sym w.1 in
    rw (letter, same)
