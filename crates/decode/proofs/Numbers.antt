-- The first elements of a list, by their places.
use Rattle.std.proofs.Common.{◌≡◌, ℕ, zero, suc, ◌+◌, ◌<◌, ◌≤◌, List, ◌∷◌, length, get_or, drop, refl, ap, ◌∙◌, arith, drop-cons}

-- the elements from i + k on, the first n by their places
abbrev pub pulled : ℕ → ℕ → ℕ → List ℕ → List ℕ
pulled i k zero bs = drop (i + k) bs
pulled i k (suc n) bs = get_or bs (i + k) 0 ∷ pulled i (suc k) n bs

pub pulls : (n i k : ℕ) (bs : List ℕ) → i + k + n ≤ length bs → drop (i + k) bs ≡ pulled i k n bs
pulls zero i k bs h = refl
pulls (suc n) i k bs h =
    let l : i + k < length bs = omega arith in
    let e : suc (i + k) ≡ i + suc k = omega arith in
    drop-cons bs (i + k) 0 l
    ∙ ap (λ (r : List ℕ). get_or bs (i + k) 0 ∷ r) (ap (λ (j : ℕ). drop j bs) e ∙ pulls n i (suc k) bs (omega arith))
