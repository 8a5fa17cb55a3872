-- The verdict on the pairs from k on, by that on pair k.
use Rattle.std.proofs.Common.{◌≡◌, ℕ, suc, ◌+◌, ◌-◌, ◌<◌, ◌≤◌, List, length, Ok, Err, ap, ◌∙◌, arith}
use Rattle.std.proofs.lemmas.Bool.{lt-ltb, le-ltb}
use Rattle.capture.specs.declared.fault.CaptureFault.TheVariants.{Overlaps, Overruns}
use Rattle.capture.specs.Index.{start, end, judged_from}

module _ (bytes : List ℕ) (n k before : ℕ) (more : k < n) where
  one : judged_from bytes (n - k) k before ≡ judged_from bytes (suc (n - (k + 1))) k before
  one = let e : n - k ≡ suc (n - (k + 1)) = omega arith in ap (λ (left : ℕ). judged_from bytes left k before) e

  pub overlaps : start bytes k < before → judged_from bytes (n - k) k before ≡ Err (Overlaps k)
  overlaps h = one ∙ rw (lt-ltb (start bytes k) before h)

  pub overruns : before ≤ start bytes k → length bytes < end bytes k → judged_from bytes (n - k) k before ≡ Err (Overruns k)
  overruns h late = one ∙ rw (le-ltb (start bytes k) before h, lt-ltb (length bytes) (end bytes k) late)

  pub goes_on : before ≤ start bytes k → end bytes k ≤ length bytes → judged_from bytes (n - k) k before ≡ judged_from bytes (n - (k + 1)) (k + 1) (end bytes k)
  goes_on h within = one ∙ rw (le-ltb (start bytes k) before h, le-ltb (length bytes) (end bytes k) within)

pub ended : (bytes : List ℕ) (n k before : ℕ) → k ≤ n → n ≤ k → judged_from bytes (n - k) k before ≡ Ok n
ended bytes n k before h all =
    let none : n - k ≡ 0 = omega arith in
    let same : k ≡ n = omega arith in
    ap (λ (left : ℕ). judged_from bytes left k before) none ∙ ap (λ (i : ℕ). Ok i) same
