-- What is written decodes to the same fields.
use Rattle.std.proofs.Common.{◌≡◌, ℕ, ◌+◌, ◌^◌, ◌<◌, true, cond, eqb, List, [], ◌∷◌, ◌++◌, length, take, drop, Some, None, Ok, Option, Result, sym, refl, ap, ◌∙◌, subst, append_assoc, arith, length-append}
use Rattle.std.specs.Int.Digits.{number_from_digits}
use Rattle.std.proofs.lemmas.List.{take_at, drop_at}
use Rattle.std.proofs.lemmas.Bool.{eq-eqb, eqb-true}
use Rattle.wire.specs.declared.fault.FieldsFault.{FieldsFault}
use Rattle.wire.specs.declared.message.Feed.{Feed}
use Rattle.wire.specs.declared.message.Feed.TheVariants.{Depth, Bbbo, LastSale}
use Rattle.wire.specs.declared.message.Message.{Message}
use Rattle.wire.specs.declared.message.Message.TheVariants as message
use Rattle.wire.specs.Judging.{judged, after, fields_judged, figure_at, limit_judged, row_judged}
use Rattle.wire.specs.Layout.{digits, fields_bytes, bytes_of}
use Rattle.wire.specs.Table.{Row, Field, num, symbol, Value, figure, text, every_field, table, depth, bbbo, last_sale, row_S, row_R, row_H, row_Y, row_A, row_E, row_X, row_D, row_U, row_C, row_B, row_Q, row_T, row_sale_X}
use Rattle.wire.specs.declared.message.Head.{Head}
use Rattle.wire.specs.Told.{told, head_of, with_head}
use Rattle.decode.specs.Decoding.{part, values, find, by_row, checked, if_passed, decoding}
use Rattle.decode.proofs.Digits.{length_digits, number_digits}
use Rattle.decode.proofs.Whole.{gapless, in_table}
use Rattle.decode.proofs.Back.{follows}
use Rattle.encode.specs.Laying.{laid, placed, AllNarrow, Widths}
use Rattle.encode.specs.Writing.{at_home, as_written}
use Rattle.encode.proofs.Laying.{in_order, letter_first}
use Rattle.encode.proofs.Shapes.{shaped, never, told_shaped}

-- a part that was laid at its offset
there : (pre d rest : List ℕ) (at k w : ℕ) → length pre ≡ at → k ≡ at → length d ≡ w → part k w (pre ++ (d ++ rest)) ≡ d
there pre d rest at k w p e l =
    let q : length pre ≡ k = omega arith in
    rw (drop_at pre (d ++ rest) k q, take_at d rest w l)

both : {x y : Value} {xs ys : List Value} → x ≡ y → xs ≡ ys → x ∷ xs ≡ y ∷ ys
both e es = cc

read_back : (fs : List Field) (vs : List Value) (at end : ℕ) (pre : List ℕ) → gapless at fs end ≡ true → length pre ≡ at →
    shaped fs vs ≡ true → Widths fs vs → AllNarrow fs vs → values (pre ++ fields_bytes fs vs) fs ≡ at_home fs vs
read_back [] [] at end pre g p s w a = refl
read_back [] (v ∷ vs) at end pre g p s w a = never s
read_back (f ∷ fs) [] at end pre g p s w a = never s
read_back (num k n t ∷ fs) (text q x ∷ vs) at end pre g p s w a = never s
read_back (symbol k ∷ fs) (figure n ∷ vs) at end pre g p s w a = never s
read_back (num k n t ∷ fs) (figure x ∷ vs) at end pre g p s w a =
    let h = follows (num k n t) fs at end g in
    let l : length (pre ++ digits n x) ≡ at + n = rw (length-append, length_digits) (omega arith) in
    let ih : values ((pre ++ digits n x) ++ fields_bytes fs vs) fs ≡ at_home fs vs =
    read_back fs vs (at + n) end (pre ++ digits n x) h.1 l s w.1 a.1 in
    both
    (ap (λ (l : List ℕ). figure (number_from_digits 256 l)) (there pre (digits n x) (fields_bytes fs vs) at k n p h.0 (length_digits n x))
    ∙ ap figure (number_digits n x w.0))
    (ap (λ (l : List ℕ). values l fs) (sym (append_assoc pre (digits n x) (fields_bytes fs vs))) ∙ ih)
read_back (symbol k ∷ fs) (text q x ∷ vs) at end pre g p s w a =
    let h = follows (symbol k) fs at end g in
    let l : length (pre ++ x) ≡ at + 8 = rw length-append (omega (arith, a.0)) in
    let ih : values ((pre ++ x) ++ fields_bytes fs vs) fs ≡ at_home fs vs = read_back fs vs (at + 8) end (pre ++ x) h.1 l s w a.1 in
    both
    (ap (text k) (there pre x (fields_bytes fs vs) at k 8 p h.0 a.0))
    (ap (λ (l : List ℕ). values l fs) (sym (append_assoc pre x (fields_bytes fs vs))) ∙ ih)

size_laid : (fs : List Field) (vs : List Value) (at end : ℕ) → gapless at fs end ≡ true → shaped fs vs ≡ true → AllNarrow fs vs →
    at + length (fields_bytes fs vs) ≡ end
size_laid [] [] at end g s a = let e = eqb-true at end g in omega arith
size_laid [] (v ∷ vs) at end g s a = never s
size_laid (f ∷ fs) [] at end g s a = never s
size_laid (num k n t ∷ fs) (text q x ∷ vs) at end g s a = never s
size_laid (symbol k ∷ fs) (figure n ∷ vs) at end g s a = never s
size_laid (num k n t ∷ fs) (figure x ∷ vs) at end g s a =
    let ih = size_laid fs vs (at + n) end (follows (num k n t) fs at end g).1 s a.1 in rw (length-append, length_digits) (omega arith)
size_laid (symbol k ∷ fs) (text q x ∷ vs) at end g s a =
    let ih = size_laid fs vs (at + 8) end (follows (symbol k) fs at end g).1 s a.1 in rw length-append (omega (arith, a.0))

-- where a symbol stands does not matter to any question

judged_home : (fs : List Field) (vs : List Value) → fields_judged fs (at_home fs vs) ≡ fields_judged fs vs
judged_home [] vs = refl
judged_home (f ∷ fs) [] = refl
judged_home (num k n t ∷ fs) (v ∷ vs) = ap (after (judged (num k n t) v)) (judged_home fs vs)
judged_home (symbol k ∷ fs) (figure n ∷ vs) = judged_home fs vs
judged_home (symbol k ∷ fs) (text q x ∷ vs) = ap (after (judged (symbol k) (text q x))) (judged_home fs vs)

figure_home : (at : ℕ) (fs : List Field) (vs : List Value) → figure_at at fs (at_home fs vs) ≡ figure_at at fs vs
figure_home at [] vs = refl
figure_home at (f ∷ fs) [] = refl
figure_home at (num k n t ∷ fs) (figure x ∷ vs) = ap (cond (eqb k at) x) (figure_home at fs vs)
figure_home at (num k n t ∷ fs) (text q x ∷ vs) = figure_home at fs vs
figure_home at (symbol k ∷ fs) (figure n ∷ vs) = figure_home at fs vs
figure_home at (symbol k ∷ fs) (text q x ∷ vs) = figure_home at fs vs

limit_home : (o : Option (ℕ × ℕ)) (fs : List Field) (vs : List Value) → limit_judged o fs (at_home fs vs) ≡ limit_judged o fs vs
limit_home None fs vs = refl
limit_home (Some l) fs vs = rw (figure_home l.0 fs vs, figure_home l.1 fs vs)

row_home : (r : Row) (vs : List Value) → row_judged r (at_home (every_field r) vs) ≡ row_judged r vs
row_home r vs = rw (judged_home (every_field r) vs, limit_home r.limit (every_field r) vs)

-- a message's own row is found under its letter in its feed

everywhere : (r : Row) → find table Depth r.letter ≡ Some r → find table Bbbo r.letter ≡ Some r → find table LastSale r.letter ≡ Some r → (f : Feed) → find table f r.letter ≡ Some r
everywhere r d b l Depth = d
everywhere r d b l Bbbo = b
everywhere r d b l LastSale = l

on_depth : (r : Row) → find table Depth r.letter ≡ Some r → (f : Feed) → depth f ≡ true → find table f r.letter ≡ Some r
on_depth r d Depth e = d
on_depth r d Bbbo e = never e
on_depth r d LastSale e = never e

on_bbbo : (r : Row) → find table Bbbo r.letter ≡ Some r → (f : Feed) → bbbo f ≡ true → find table f r.letter ≡ Some r
on_bbbo r b Depth e = never e
on_bbbo r b Bbbo e = b
on_bbbo r b LastSale e = never e

on_last_sale : (r : Row) → find table LastSale r.letter ≡ Some r → (f : Feed) → last_sale f ≡ true → find table f r.letter ≡ Some r
on_last_sale r l Depth e = never e
on_last_sale r l Bbbo e = never e
on_last_sale r l LastSale e = l

found_in : (m : Message) (f : Feed) → (told m).0.on f ≡ true → find table f (told m).0.letter ≡ Some (told m).0
found_in (message.Event m) f e = everywhere row_S refl refl refl f
found_in (message.Directory m) f e = everywhere row_R refl refl refl f
found_in (message.TradingAction m) f e = everywhere row_H refl refl refl f
found_in (message.Restriction m) f e = everywhere row_Y refl refl refl f
found_in (message.Add m) f e = on_depth row_A refl f e
found_in (message.Execute m) f e = on_depth row_E refl f e
found_in (message.Cancel m) f e = on_depth row_X refl f e
found_in (message.Delete m) f e = on_depth row_D refl f e
found_in (message.Replace m) f e = on_depth row_U refl f e
found_in (message.Correct m) f e = on_depth row_C refl f e
found_in (message.Break m) f e = on_depth row_B refl f e
found_in (message.Quote m) f e = on_bbbo row_Q refl f e
found_in (message.Sale m) f e = on_last_sale row_T refl f e
found_in (message.SaleCancel m) f e = on_last_sale row_sale_X refl f e

accepted : (r : Row) (bs : List ℕ) (vs : List Value) → length bs ≡ r.size → values bs (every_field r) ≡ vs → row_judged r vs ≡ Ok tt →
    by_row (Some r) bs ≡ Ok (r, vs)
accepted r bs vs l v j =
    let good : checked r vs ≡ Ok (r, vs) = ap (λ (x : Result (Unit {0}) FieldsFault). if_passed x (r, vs)) j in
    rw (eq-eqb (length bs) r.size l) (subst (λ (u : List Value). checked r u ≡ Ok (r, vs)) (sym v) good)

-- every message begins with its locate and time stamp
module _ (m : Message) where
  head_first : (told m).1 ≡ with_head (head_of m) (drop 2 (told m).1)
  head_first = go m
    where
      go : (m : Message) → (told m).1 ≡ with_head (head_of m) (drop 2 (told m).1)
      go (message.Event m) = refl
      go (message.Directory m) = refl
      go (message.TradingAction m) = refl
      go (message.Restriction m) = refl
      go (message.Add m) = refl
      go (message.Execute m) = refl
      go (message.Cancel m) = refl
      go (message.Delete m) = refl
      go (message.Replace m) = refl
      go (message.Correct m) = refl
      go (message.Break m) = refl
      go (message.Quote m) = refl
      go (message.Sale m) = refl
      go (message.SaleCancel m) = refl

  pub rest_narrow : AllNarrow (every_field (told m).0) (told m).1 → AllNarrow (told m).0.fields (drop 2 (told m).1)
  rest_narrow n = (subst (λ (vs : List Value). AllNarrow (every_field (told m).0) vs) head_first n).1.1

  pub all_widths : (h : Head) → h ≡ head_of m → (h.locate < 256 ^ 2) × (h.stamp < 256 ^ 8) →
      Widths (told m).0.fields (drop 2 (told m).1) → Widths (every_field (told m).0) (told m).1
  all_widths h e (l, s) w =
      subst (λ (vs : List Value). Widths (every_field (told m).0) vs) (sym head_first) (rw (← e) l, (rw (← e) s, w))

  pub placed_behind : (h : Head) (k : ℕ) (headed old : List ℕ) → h ≡ head_of m → k ≡ (told m).0.letter →
      headed ≡ laid 3 (digits 8 h.stamp) (laid 1 (digits 2 h.locate) (laid 0 (k ∷ []) old)) →
      placed (told m).0.fields (drop 2 (told m).1) headed ≡ placed (every_field (told m).0) (told m).1 (laid 0 ((told m).0.letter ∷ []) old)
  placed_behind h k headed old e l p =
      rw (p, e, l)
      (ap (λ (vs : List Value). placed (every_field (told m).0) vs (laid 0 ((told m).0.letter ∷ []) old)) (sym head_first))

module _ (f : Feed) (m : Message) (on : (told m).0.on f ≡ true) (passed : row_judged (told m).0 (told m).1 ≡ Ok tt)
    (widths : Widths (every_field (told m).0) (told m).1) (narrow : AllNarrow (every_field (told m).0) (told m).1) where
  whole : gapless 1 (every_field (told m).0) (told m).0.size ≡ true
  whole = (in_table f (told m).0.letter (told m).0 (found_in m f on)).0

  pub long : length (bytes_of (told m)) ≡ (told m).0.size
  long = omega (arith, size_laid (every_field (told m).0) (told m).1 1 (told m).0.size whole (told_shaped m) narrow)

  decodes : decoding f (bytes_of (told m)) ≡ Ok (as_written (told m))
  decodes =
      let r = (told m).0 in
      let v : values (bytes_of (told m)) (every_field r) ≡ at_home (every_field r) (told m).1 =
      read_back (every_field r) (told m).1 1 r.size (r.letter ∷ []) whole refl (told_shaped m) widths narrow in
      ap (λ (o : Option Row). by_row o (bytes_of (told m))) (found_in m f on)
      ∙ accepted r (bytes_of (told m)) (at_home (every_field r) (told m).1) long v (row_home r (told m).1 ∙ passed)

  pub again : (n : ℕ) (rest : List ℕ) → n ≡ (told m).0.size → decoding f (take n (bytes_of (told m) ++ rest)) ≡ Ok (as_written (told m))
  again n rest e = ap (decoding f) (take_at (bytes_of (told m)) rest n (long ∙ sym e)) ∙ decodes

  -- the buffer into which the message was put
  pub in_front : (old : List ℕ) →
      placed (every_field (told m).0) (told m).1 (laid 0 ((told m).0.letter ∷ []) old) ≡ bytes_of (told m) ++ drop (told m).0.size old
  in_front old =
      let r = (told m).0 in
      ap (λ (b : List ℕ). placed (every_field r) (told m).1 b) (letter_first r.letter old)
      ∙ in_order (every_field r) (told m).1 1 r.size (r.letter ∷ []) old whole refl (told_shaped m) narrow
