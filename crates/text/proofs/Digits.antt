-- Decimal digits that are written from the last one back.
use Rattle.std.proofs.Common.{◌≡◌, ℕ, zero, suc, ◌+◌, ◌-◌, ◌*◌, ◌/◌, ◌%◌, ◌^◌, ◌<◌, ◌≤◌, max, List, ◌∷◌, ◌++◌, length, drop, set, decimal, sym, refl, ap, ◌∙◌, ⊎_elim, add-one, append_assoc, arith}
use Rattle.std.proofs.Math.Nat.{pow-suc}
use Rattle.std.proofs.lemmas.Fmt.{decimal_digit, decimal_step, decimal_nonempty, length-decimal-le}
use Rattle.std.proofs.lemmas.List.{drop-set, length_push}
use Rattle.std.proofs.lemmas.Bool.{cases_lt}

pub length-decimal_step : (n : ℕ) → 10 ≤ n → n < 2 ^ 64 → length (decimal n) ≡ length (decimal (n / 10)) + 1
length-decimal_step n h f = ap length (decimal_step n h f) ∙ length_push (decimal (n / 10)) (48 + n % 10)

pub length-decimal_digit : (n : ℕ) → n < 10 → length (decimal n) ≡ 1
length-decimal_digit n h = ap length (decimal_digit n h)

-- by the largest power of ten that is no more than the number, or than one
some : (k : ℕ) → 0 < 10 ^ k
some zero = omega arith
some (suc k) = let p = pow-suc 10 k in omega (arith, some k)

long : (k n : ℕ) → n < 2 ^ 64 → 10 ^ k ≤ n → k < length (decimal n)
long zero n fits h = decimal_nonempty n fits
long (suc k) n fits h =
    let p = pow-suc 10 k in
    let s = some k in
    omega (arith, long k (n / 10) (omega arith) (omega arith), length-decimal_step n (omega arith) fits)

least : (k n m : ℕ) → n < 2 ^ 64 → m ≡ max n 1 → 10 ^ k ≤ m → k < length (decimal n)
least zero n m fits e low = decimal_nonempty n fits
least (suc k) n m fits e low =
    let p = pow-suc 10 k in
    let s = some k in
    long (suc k) n fits (omega arith)

pub digits : (k n m : ℕ) → n < 2 ^ 64 → m ≡ max n 1 → 10 ^ k ≤ m → m < 10 * 10 ^ k → k + 1 ≡ length (decimal n)
digits k n m fits e low high =
    let p : 10 ^ (k + 1) ≡ 10 ^ k * 10 = rw add-one (pow-suc 10 k) in
    omega (arith, least k n m fits e low, length-decimal-le (k + 1) n (omega arith) (omega arith) fits)

-- the digits of n stand in `to` from i on, and those of `rest` belong before them
abbrev pub Left : ℕ → ℕ → List ℕ → ℕ → Type 0
Left i rest to n =
    (0 < i → (length (decimal rest) ≡ i) × (decimal rest ++ drop i to ≡ decimal n)) × (i ≡ 0 → to ≡ decimal n)

-- one more digit
module _ (i rest n : ℕ) (to : List ℕ) (some : 0 < i) (within : i ≤ length to) (fits : rest < 2 ^ 64) (left : Left i rest to n) where
  abbrev last : ℕ
  last = 48 + rest % 10

  next : drop (i - 1) (set to (i - 1) last) ≡ last ∷ drop i to
  next = let e : i - 1 + 1 ≡ i = omega arith in drop-set to (i - 1) last (omega arith) ∙ ap (λ (k : ℕ). last ∷ drop k to) e

  pub left_more : Left (i - 1) (rest / 10) (set to (i - 1) last) n
  left_more =
      ⊎_elim
      (λ small.
      let one : i - 1 ≡ 0 = omega (arith, (left.0 some).0, length-decimal_digit rest small) in
      let same : rest ≡ rest % 10 = omega arith in
      let whole : decimal rest ++ drop i to ≡ last ∷ drop i to =
      ap (λ ds. ds ++ drop i to) (decimal_digit rest small) ∙ ap (λ (d : ℕ). (48 + d) ∷ drop i to) same in
      let flat : drop (i - 1) (set to (i - 1) last) ≡ set to (i - 1) last = ap (λ (k : ℕ). drop k (set to (i - 1) last)) one in
      (λ more. absurd (omega arith), λ none. sym flat ∙ next ∙ sym whole ∙ (left.0 some).1))
      (λ large.
      let len = length-decimal_step rest large fits in
      let more = decimal_nonempty (rest / 10) (omega arith) in
      let whole : decimal (rest / 10) ++ (last ∷ drop i to) ≡ decimal rest ++ drop i to = rw (decimal_step rest large fits, append_assoc) refl in
      (λ some_more. (omega (arith, (left.0 some).0), ap (λ (ds : List ℕ). decimal (rest / 10) ++ ds) next ∙ whole ∙ (left.0 some).1), λ none. absurd (omega (arith, (left.0 some).0))))
      (cases_lt rest 10)
