-- A message's values, from its head and its rest.
use Rattle.std.proofs.Common.{◌≡◌, ℕ, ◌+◌, ◌*◌, ◌≤◌, List, [], ◌∷◌, length, get_or, drop, refl, ap, ◌∙◌, arith}
use Rattle.std.specs.Int.Digits.{number_from_digits}
use Rattle.wire.specs.declared.kind.Kind.{Kind}
use Rattle.wire.specs.declared.kind.Kind.TheVariants as kind
use Rattle.wire.specs.declared.message.Head.{Head}
use Rattle.wire.specs.Table.{Row, Value, figure, every_field}
use Rattle.wire.specs.Told.{with_head}
use Rattle.decode.specs.Decoding.{values}
use Rattle.decode.proofs.Numbers.{pulls}
use Rattle.decode.specs.Rest.{rest_values}
use Rattle.wire.specs.Kinds.{row_of}

split : (k : Kind) (x0 x1 x2 x3 x4 x5 x6 x7 x8 x9 x10 : ℕ) (rest : List ℕ) →
    values (x0 ∷ x1 ∷ x2 ∷ x3 ∷ x4 ∷ x5 ∷ x6 ∷ x7 ∷ x8 ∷ x9 ∷ x10 ∷ rest) (every_field (row_of k)) ≡
    figure (number_from_digits 256 (x1 ∷ x2 ∷ [])) ∷ figure (number_from_digits 256 (x3 ∷ x4 ∷ x5 ∷ x6 ∷ x7 ∷ x8 ∷ x9 ∷ x10 ∷ [])) ∷ rest_values rest (row_of k).fields
split kind.Event x0 x1 x2 x3 x4 x5 x6 x7 x8 x9 x10 rest = refl
split kind.Directory x0 x1 x2 x3 x4 x5 x6 x7 x8 x9 x10 rest = refl
split kind.Add x0 x1 x2 x3 x4 x5 x6 x7 x8 x9 x10 rest = refl
split kind.Execute x0 x1 x2 x3 x4 x5 x6 x7 x8 x9 x10 rest = refl
split kind.Delete x0 x1 x2 x3 x4 x5 x6 x7 x8 x9 x10 rest = refl
split kind.TradingAction x0 x1 x2 x3 x4 x5 x6 x7 x8 x9 x10 rest = refl
split kind.Restriction x0 x1 x2 x3 x4 x5 x6 x7 x8 x9 x10 rest = refl
split kind.Cancel x0 x1 x2 x3 x4 x5 x6 x7 x8 x9 x10 rest = refl
split kind.Replace x0 x1 x2 x3 x4 x5 x6 x7 x8 x9 x10 rest = refl
split kind.Correct x0 x1 x2 x3 x4 x5 x6 x7 x8 x9 x10 rest = refl
split kind.Break x0 x1 x2 x3 x4 x5 x6 x7 x8 x9 x10 rest = refl
split kind.Quote x0 x1 x2 x3 x4 x5 x6 x7 x8 x9 x10 rest = refl
split kind.Sale x0 x1 x2 x3 x4 x5 x6 x7 x8 x9 x10 rest = refl
split kind.SaleCancel x0 x1 x2 x3 x4 x5 x6 x7 x8 x9 x10 rest = refl

pub apart : (k : Kind) (bs : List ℕ) → 11 ≤ length bs →
    values bs (every_field (row_of k)) ≡
    figure (number_from_digits 256 (get_or bs 1 0 ∷ get_or bs 2 0 ∷ [])) ∷
    figure (number_from_digits 256 (get_or bs 3 0 ∷ get_or bs 4 0 ∷ get_or bs 5 0 ∷ get_or bs 6 0 ∷ get_or bs 7 0 ∷ get_or bs 8 0 ∷ get_or bs 9 0 ∷ get_or bs 10 0 ∷ [])) ∷
    rest_values (drop 11 bs) (row_of k).fields
apart k bs h =
    ap (λ (l : List ℕ). values l (every_field (row_of k))) (pulls 11 0 0 bs h)
    ∙ split k (get_or bs 0 0) (get_or bs 1 0) (get_or bs 2 0) (get_or bs 3 0) (get_or bs 4 0) (get_or bs 5 0) (get_or bs 6 0) (get_or bs 7 0) (get_or bs 8 0) (get_or bs 9 0) (get_or bs 10 0) (drop 11 bs)

module _ (k : Kind) (bs : List ℕ) (long : 11 ≤ length bs) where
  pub joins : (h : Head) (rest : List ℕ) →
      h.locate ≡ get_or bs 1 0 * 256 + get_or bs 2 0 →
      h.stamp ≡ get_or bs 3 0 * 72057594037927936 + get_or bs 4 0 * 281474976710656 + get_or bs 5 0 * 1099511627776 + get_or bs 6 0 * 4294967296
      + get_or bs 7 0 * 16777216 + get_or bs 8 0 * 65536 + get_or bs 9 0 * 256 + get_or bs 10 0 →
      rest ≡ drop 11 bs →
      ◌≡◌ {A = Row × List Value} (row_of k, with_head h (rest_values rest (row_of k).fields)) (row_of k, values bs (every_field (row_of k)))
  joins h rest l t r =
      let l' : h.locate ≡ number_from_digits 256 (get_or bs 1 0 ∷ get_or bs 2 0 ∷ []) = omega arith in
      let t' : h.stamp ≡ number_from_digits 256 (get_or bs 3 0 ∷ get_or bs 4 0 ∷ get_or bs 5 0 ∷ get_or bs 6 0 ∷ get_or bs 7 0 ∷ get_or bs 8 0 ∷ get_or bs 9 0 ∷ get_or bs 10 0 ∷ []) = omega arith in
      rw (apart k bs long, l', t', r)
