-- What passes, passes field by field: its codes are bytes, its symbols eight bytes long.
use Rattle.std.proofs.Common.{◌≡◌, ℕ, ◌+◌, ◌<◌, Bool, true, false, cond, ◌&&◌, eqb, ltb, List, [], ◌∷◌, length, get_or, is_some, Some, Ok, Err, Result, refl, arith}
use Rattle.std.proofs.lemmas.Bool.{and_parts, eqb-true, ltb-true}
use Rattle.codes.specs.Letters.{rank}
use Rattle.wire.specs.declared.fault.FieldsFault.{FieldsFault}
use Rattle.wire.specs.declared.fault.FieldsFault.TheVariants.{BadSymbol, UnlistedCode}
use Rattle.wire.specs.declared.message.Message.{Message}
use Rattle.wire.specs.declared.message.Message.TheVariants as message
use Rattle.wire.specs.Judging.{verdict, judged, after, fields_judged, limit_judged, row_judged}
use Rattle.wire.specs.Symbols.{printable, filled, well_formed}
use Rattle.wire.specs.Table.{nought, some, free, one_of, within, Field, num, symbol, Value, figure, text, every_field}
use Rattle.wire.specs.Told.{told}
use Rattle.encode.specs.Laying.{Narrow, AllNarrow}

verdict_true : (b : Bool) (f : FieldsFault) → verdict b f ≡ Ok tt → b ≡ true
verdict_true true f e = refl
verdict_true false f e = cc

after_first : {X : Type 0} (a : Result (Unit {0}) FieldsFault) (b : Result X FieldsFault) (x : X) → after a b ≡ Ok x → a ≡ Ok tt
after_first (Ok tt) b x e = refl
after_first (Err f) b x e = cc

after_then : {X : Type 0} (a : Result (Unit {0}) FieldsFault) (b : Result X FieldsFault) (x : X) → after a b ≡ Ok x → b ≡ Ok x
after_then (Ok u) b x e = e
after_then (Err f) b x e = cc

-- codes that are bytes
abbrev bytes : List ℕ → Bool
bytes [] = true
bytes (c ∷ cs) = ltb c 256 && bytes cs

ranked : (cs : List ℕ) (i c : ℕ) → bytes cs ≡ true → is_some (rank i cs c) ≡ true → c < 256
ranked [] i c s e = let z : ◌≡◌ {A = ℕ} 0 1 = cc in absurd (omega arith)
ranked (d ∷ ds) i c s e = go (eqb c d) refl e (ranked ds (i + 1) c (and_parts (ltb d 256) (bytes ds) s).1)
  where
    go : (b : Bool) → eqb c d ≡ b → is_some (cond b (Some i) (rank (i + 1) ds c)) ≡ true → (is_some (rank (i + 1) ds c) ≡ true → c < 256) → c < 256
    go true t e rec = omega (arith, eqb-true c d t, ltb-true d 256 (and_parts (ltb d 256) (bytes ds) s).0)
    go false t e rec = rec e

eight_long : (s : List ℕ) → well_formed s ≡ true → length s ≡ 8
eight_long s e = eqb-true (length s) 8 (and_parts (eqb (length s) 8) (printable (get_or s 0 0) && filled false s) e).0

-- the codes of a field are bytes
abbrev coded : Field → Bool
coded (num at width (one_of cs)) = bytes cs
coded (num at width nought) = true
coded (num at width some) = true
coded (num at width free) = true
coded (num at width (within low high)) = true
coded (symbol at) = true

abbrev all_coded : List Field → Bool
all_coded [] = true
all_coded (f ∷ fs) = coded f && all_coded fs

narrow : (f : Field) (v : Value) → coded f ≡ true → judged f v ≡ Ok tt → Narrow f v
narrow (num at width (one_of cs)) (figure n) c j = ranked cs 0 n c (verdict_true (is_some (rank 0 cs n)) (UnlistedCode at) j)
narrow (symbol at) (text place s) c j = eight_long s (verdict_true (well_formed s) (BadSymbol at) j)
narrow (num at width nought) (figure n) c j = tt
narrow (num at width some) (figure n) c j = tt
narrow (num at width free) (figure n) c j = tt
narrow (num at width (within low high)) (figure n) c j = tt
narrow (num at width nought) (text place s) c j = tt
narrow (num at width some) (text place s) c j = tt
narrow (num at width free) (text place s) c j = tt
narrow (num at width (one_of cs)) (text place s) c j = tt
narrow (num at width (within low high)) (text place s) c j = tt
narrow (symbol at) (figure n) c j = tt

each_narrow : (fs : List Field) (vs : List Value) → all_coded fs ≡ true → fields_judged fs vs ≡ Ok tt → AllNarrow fs vs
each_narrow [] vs c j = tt
each_narrow (f ∷ fs) [] c j = tt
each_narrow (f ∷ fs) (v ∷ vs) c j =
    let k = and_parts (coded f) (all_coded fs) c in
    (narrow f v k.0 (after_first (judged f v) (fields_judged fs vs) tt j), each_narrow fs vs k.1 (after_then (judged f v) (fields_judged fs vs) tt j))

-- every row's codes are bytes
told_coded : (m : Message) → all_coded (every_field (told m).0) ≡ true
told_coded (message.Event m) = refl
told_coded (message.Directory m) = refl
told_coded (message.TradingAction m) = refl
told_coded (message.Restriction m) = refl
told_coded (message.Add m) = refl
told_coded (message.Execute m) = refl
told_coded (message.Cancel m) = refl
told_coded (message.Delete m) = refl
told_coded (message.Replace m) = refl
told_coded (message.Correct m) = refl
told_coded (message.Break m) = refl
told_coded (message.Quote m) = refl
told_coded (message.Sale m) = refl
told_coded (message.SaleCancel m) = refl

pub passed_narrow : (m : Message) → row_judged (told m).0 (told m).1 ≡ Ok tt → AllNarrow (every_field (told m).0) (told m).1
passed_narrow m p =
    each_narrow (every_field (told m).0) (told m).1 (told_coded m)
    (after_first (fields_judged (every_field (told m).0) (told m).1) (limit_judged (told m).0.limit (every_field (told m).0) (told m).1) tt p)
