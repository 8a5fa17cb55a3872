-- No message differs when it is decoded and written again.
use Rattle.std.proofs.Common.{◌≡◌, ℕ, zero, suc, ◌+◌, ◌-◌, Bool, true, false, cond, not, ◌&&◌, eqb, leb, List, [], ◌∷◌, length, drop, Some, Ok, Err, Result, sym, refl, ap, ◌∙◌, subst, arith}
use Rattle.std.proofs.lemmas.Slice.Eq.{bytes_eq-Decides}
use Rattle.std.proofs.lemmas.List.{get_or-drop}
use Rattle.std.proofs.lemmas.Bool.{and_parts, eq-eqb}
use Rattle.wire.specs.declared.fault.FieldsFault.{FieldsFault}
use Rattle.wire.specs.declared.fault.WireFault.{WireFault}
use Rattle.wire.specs.declared.message.Feed.{Feed}
use Rattle.wire.specs.Judging.{row_judged}
use Rattle.wire.specs.Layout.{bytes_of}
use Rattle.wire.specs.Table.{Row, Value, table, every_field}
use Rattle.capture.specs.Index.{start, end, message, messages}
use Rattle.decode.specs.Decoding.{find, values, checked, if_passed, by_row, ByteString}
use Rattle.decode.proofs.Digits.{front_bytes}
use Rattle.decode.proofs.Back.{accepted_as, writes_back}
use Rattle.encode.specs.Writing.{writing}
use Rattle.listing.specs.Paging.{how_many}
use Rattle.listing.specs.Rewriting.{gave, gives, differs_as, differs}

-- every row has at most 43 bytes
abbrev all_short : List Row → Bool
all_short [] = true
all_short (r ∷ rs) = leb r.size 43 && all_short rs

-- a row that is found is one of the feed, and short
found_row : (rs : List Row) (f : Feed) (k : ℕ) (r : Row) → all_short rs ≡ true → find rs f k ≡ Some r → (r.on f ≡ true) × (leb r.size 43 ≡ true)
found_row [] f k r a e = let z : ◌≡◌ {A = ℕ} 0 1 = cc in absurd (omega arith)
found_row (q ∷ rs) f k r a e = go (eqb k q.letter && q.on f) refl e (found_row rs f k r (and_parts (leb q.size 43) (all_short rs) a).1)
  where
    go : (b : Bool) → (eqb k q.letter && q.on f) ≡ b → cond b (Some q) (find rs f k) ≡ Some r →
        (find rs f k ≡ Some r → (r.on f ≡ true) × (leb r.size 43 ≡ true)) → (r.on f ≡ true) × (leb r.size 43 ≡ true)
    go true t e rec =
        let same : q ≡ r = cc in
        subst (λ (x : Row). (x.on f ≡ true) × (leb x.size 43 ≡ true)) same
        ((and_parts (eqb k q.letter) (q.on f) t).1, (and_parts (leb q.size 43) (all_short rs) a).0)
    go false t e rec = rec e

passed_by : (a : Result (Unit {0}) FieldsFault) (x y : Row × List Value) → if_passed a x ≡ Ok y → a ≡ Ok tt
passed_by (Ok u) x y e = refl
passed_by (Err g) x y e = let z : ◌≡◌ {A = ℕ} 0 1 = cc in absurd (omega arith)

module _ (f : Feed) (k : ℕ) (bs : List ℕ) (bytes : ByteString (k ∷ bs)) (m : Row × List Value) (e : by_row (find table f k) (k ∷ bs) ≡ Ok m) where
  judged_ok : row_judged m.0 m.1 ≡ Ok tt
  judged_ok =
      let t = accepted_as (find table f k) (k ∷ bs) m e in
      let r = m.0 in
      let one : by_row (Some r) (k ∷ bs) ≡ Ok m = ap (λ o. by_row o (k ∷ bs)) (sym t.0) ∙ e in
      let sized : by_row (Some r) (k ∷ bs) ≡ checked r (values (k ∷ bs) (every_field r)) = rw (eq-eqb (length (k ∷ bs)) r.size t.1.0) in
      let same : checked r (values (k ∷ bs) (every_field r)) ≡ checked r m.1 = ap (checked r) t.1.1 in
      passed_by (row_judged r m.1) (r, m.1) m (sym same ∙ sym sized ∙ one)

  writes_all : writing f m 43 ≡ Ok m.0.size
  writes_all =
      let t = accepted_as (find table f k) (k ∷ bs) m e in
      let w = found_row table f k m.0 refl t.0 in
      rw (w.0, judged_ok, w.1)

  pub gives_back : gives f m (k ∷ bs) ≡ true
  gives_back =
      ap (λ (x : Result ℕ WireFault). gave x m (k ∷ bs)) writes_all
      ∙ (bytes_eq-Decides (bytes_of m) (k ∷ bs)).1 (writes_back f (k ∷ bs) m bytes e)

agrees_as : (f : Feed) (k : ℕ) (bs : List ℕ) (d : Result (Row × List Value) WireFault) → ByteString (k ∷ bs) → by_row (find table f k) (k ∷ bs) ≡ d → differs_as f d (k ∷ bs) ≡ false
agrees_as f k bs (Ok m) b e = ap not (gives_back f k bs b m e)
agrees_as f k bs (Err g) b e = refl

agrees : (f : Feed) (bs : List ℕ) → ByteString bs → differs f bs ≡ false
agrees f [] b = refl
agrees f (k ∷ bs) b = agrees_as f k bs (by_row (find table f k) (k ∷ bs)) b refl

-- no message of a capture differs
pub none_differs : (f : Feed) (bytes : List ℕ) (n k : ℕ) → ByteString bytes → how_many (differs f) (messages bytes k n) ≡ 0
none_differs f bytes zero k b = refl
none_differs f bytes (suc n) k b =
    let part : ByteString (message bytes k) = front_bytes (end bytes k - start bytes k) (drop (start bytes k) bytes) (λ i. rw get_or-drop (b (start bytes k + i))) in
    let one : ◌≡◌ {A = ℕ} (cond (differs f (message bytes k)) 1 0) 0 = ap {B = ℕ} (λ (x : Bool). cond {A = ℕ} x 1 0) (agrees f (message bytes k) part) in
    let ih = none_differs f bytes n (k + 1) b in
    omega arith
