-- Numbers where fields have numbers, symbols where they have symbols.
use Rattle.std.proofs.Common.{◌≡◌, ℕ, Bool, true, false, List, [], ◌∷◌, refl, arith}
use Rattle.wire.specs.declared.message.Message.{Message}
use Rattle.wire.specs.declared.message.Message.TheVariants as message
use Rattle.wire.specs.Table.{Field, num, symbol, Value, figure, text, every_field}
use Rattle.wire.specs.Told.{told}

abbrev pub shaped : List Field → List Value → Bool
shaped [] [] = true
shaped [] (v ∷ vs) = false
shaped (f ∷ fs) [] = false
shaped (num at w t ∷ fs) (figure n ∷ vs) = shaped fs vs
shaped (num at w t ∷ fs) (text p s ∷ vs) = false
shaped (symbol at ∷ fs) (text p s ∷ vs) = shaped fs vs
shaped (symbol at ∷ fs) (figure n ∷ vs) = false

pub never : {P : Type 0} → false ≡ true → P
never e = let z : ◌≡◌ {A = ℕ} 0 1 = cc in absurd (omega arith)

-- so it is of every message
pub told_shaped : (m : Message) → shaped (every_field (told m).0) (told m).1 ≡ true
told_shaped (message.Event m) = refl
told_shaped (message.Directory m) = refl
told_shaped (message.TradingAction m) = refl
told_shaped (message.Restriction m) = refl
told_shaped (message.Add m) = refl
told_shaped (message.Execute m) = refl
told_shaped (message.Cancel m) = refl
told_shaped (message.Delete m) = refl
told_shaped (message.Replace m) = refl
told_shaped (message.Correct m) = refl
told_shaped (message.Break m) = refl
told_shaped (message.Quote m) = refl
told_shaped (message.Sale m) = refl
told_shaped (message.SaleCancel m) = refl
