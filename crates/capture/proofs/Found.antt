-- The messages of a judged capture are found, one after another.
use Rattle.std.proofs.Common.{◌≡◌, ℕ, suc, ◌+◌, ◌-◌, ◌*◌, ◌<◌, ◌≤◌, ◌⊎◌, List, ◌∷◌, length, Some, None, Ok, Option, Bor, refl, sym, ap, ◌∙◌, ⊎_elim, arith}
use Rattle.std.proofs.lemmas.Bool.{le-leb, lt-leb}
use Rattle.std.specs.List.{slice_range}
use Rattle.std.specs.Option.{option_map, MatchOption}
use Rattle.capture.specs.Index.{Laid, judged, start, end, message, messages, found}
use Rattle.capture.proofs.Laid.{laid}

-- every message of a judged capture is found
pub is_found : (bytes : List ℕ) (n k : ℕ) → Laid bytes n → k < n → found bytes k ≡ Some (message bytes k)
is_found bytes n k laid h =
    let b = laid.behind k h in
    let w = laid.within k h in
    rw (le-leb (10 + 6 * k) (length bytes) (omega arith), le-leb (end bytes k) (length bytes) w)

-- the next message, and those after it
pub messages_more : (bytes : List ℕ) (n k : ℕ) → k < n → messages bytes k (n - k) ≡ message bytes k ∷ messages bytes (k + 1) (n - (k + 1))
messages_more bytes n k h =
    let e : n - k ≡ suc (n - (k + 1)) = omega arith in
    ap (messages bytes k) e

-- what is found of a judged capture is its message
pub is_message : (bytes m : List ℕ) (n k : ℕ) → Laid bytes n → k < n → Some m ≡ found bytes k → m ≡ message bytes k
is_message bytes m n k laid h e = let f : Some m ≡ Some (message bytes k) = e ∙ is_found bytes n k laid h in cc

-- a part that is looked up from a message's start to its end is what is found of it
pub found_as : (bytes : List ℕ) (k a b : ℕ) (r : Option (Bor (List ℕ))) → 10 + 6 * k ≤ length bytes → a ≡ start bytes k → b ≡ end bytes k →
    MatchOption r ((b < a) ⊎ (length bytes < b)) (λ x. (a ≤ b) × (b ≤ length bytes) × (x.now ≡ slice_range bytes a b) × (length x.now + a ≡ b)) →
    option_map (λ x. x.now) r ≡ found bytes k
found_as bytes k a b None room s e m =
    let out : length bytes < end bytes k = ⊎_elim (λ (h : b < a). omega arith) (λ (h : length bytes < b). omega arith) m in
    rw (le-leb (10 + 6 * k) (length bytes) room, lt-leb (end bytes k) (length bytes) out)
found_as bytes k a b (Some x) room s e m =
    let w : end bytes k ≤ length bytes = omega arith in
    let f : found bytes k ≡ Some (message bytes k) = rw (le-leb (10 + 6 * k) (length bytes) room, le-leb (end bytes k) (length bytes) w) in
    let g : x.now ≡ message bytes k = m.2 ∙ ap (λ (i : ℕ). slice_range bytes i b) s ∙ ap (slice_range bytes (start bytes k)) e in
    ap (λ (y : List ℕ). Some y) g ∙ sym f

-- of a judged capture the messages below its count are found
pub is_found_as : (bytes : List ℕ) (n k : ℕ) (r : Option (Bor (List ℕ))) → judged bytes ≡ Ok n → k < n → option_map (λ x. x.now) r ≡ found bytes k →
    MatchOption r (n ≤ k) (λ x. (k < n) × (x.now ≡ message bytes k))
is_found_as bytes n k None j h e = let f = e ∙ is_found bytes n k (laid bytes (judged bytes) refl n j) h in cc
is_found_as bytes n k (Some x) j h e = (h, is_message bytes x.now n k (laid bytes (judged bytes) refl n j) h e)
