-- The entries of an index, cut out of its bytes six at a time.
use Rattle.std.proofs.Common.{◌≡◌, ℕ, zero, suc, ◌+◌, ◌-◌, ◌*◌, ◌<◌, ◌≤◌, List, get_or, take, drop, ap, ◌∙◌, arith}
use Rattle.std.proofs.lemmas.List.{get_or-take, get_or-drop}
use Rattle.std.specs.List.{slice_range}
use Rattle.std.specs.Simd.{first_chunks}
use Rattle.capture.specs.Index.{two, four, count, start, end}

-- byte j of entry k
chunk_byte : (xs : List ℕ) (n k j : ℕ) (d : List ℕ) → k < n → j < 6 → get_or (get_or (first_chunks 6 n xs) k d) j 0 ≡ get_or xs (6 * k + j) 0
chunk_byte xs zero k j d h l = absurd (omega arith)
chunk_byte xs (suc n) zero j d h l = let e : j ≡ 6 * 0 + j = omega arith in get_or-take 6 xs j 0 l ∙ ap (λ (i : ℕ). get_or xs i 0) e
chunk_byte xs (suc n) (suc k) j d h l =
    let e : 6 + (6 * k + j) ≡ 6 * suc k + j = omega arith in
    chunk_byte (drop 6 xs) n k j d (omega arith) l ∙ get_or-drop 6 xs (6 * k + j) 0 ∙ ap (λ (i : ℕ). get_or xs i 0) e

-- an entry tells where its message starts and ends
module _ (bytes index entry : List ℕ) (entries : List (List ℕ)) (from n k : ℕ) (d : List ℕ) (part : index ≡ slice_range bytes 4 from)
    (cut : entries ≡ first_chunks 6 n index) (long : 4 + 6 * n ≤ from) (more : k < n) (is : entry ≡ get_or entries k d) where
  byte : (i j : ℕ) → i < 6 → 4 + 6 * k + i ≡ j → get_or entry i 0 ≡ get_or bytes j 0
  byte i j h e =
      let f : 4 + (6 * k + i) ≡ j = omega arith in
      ap (λ (x : List ℕ). get_or x i 0) is
      ∙ ap (λ (es : List (List ℕ)). get_or (get_or es k d) i 0) cut
      ∙ chunk_byte index n k i d more h
      ∙ ap (λ (x : List ℕ). get_or x (6 * k + i) 0) part
      ∙ get_or-take (from - 4) (drop 4 bytes) (6 * k + i) 0 (omega arith)
      ∙ get_or-drop 4 bytes (6 * k + i) 0
      ∙ ap (λ (m : ℕ). get_or bytes m 0) f

  pub starts : four entry 0 ≡ start bytes k
  starts =
      let a = byte 0 (4 + 6 * k) (omega arith) (omega arith) in
      let b = byte (0 + 1) (4 + 6 * k + 1) (omega arith) (omega arith) in
      let c = byte (0 + 2) (4 + 6 * k + 2) (omega arith) (omega arith) in
      let e = byte (0 + 2 + 1) (4 + 6 * k + 2 + 1) (omega arith) (omega arith) in
      omega arith

  pub ends : four entry 0 + two entry 4 ≡ end bytes k
  ends =
      let a = starts in
      let b = byte 4 (4 + 6 * k + 4) (omega arith) (omega arith) in
      let c = byte (4 + 1) (4 + 6 * k + 4 + 1) (omega arith) (omega arith) in
      omega arith

-- the count
pub counts : (bytes head : List ℕ) → head ≡ take 4 bytes → four head 0 ≡ count bytes
counts bytes head is =
    let byte : (i : ℕ) → i < 4 → get_or head i 0 ≡ get_or bytes i 0 = λ i h. ap (λ (x : List ℕ). get_or x i 0) is ∙ get_or-take 4 bytes i 0 h in
    let a = byte 0 (omega arith) in
    let b = byte (0 + 1) (omega arith) in
    let c = byte (0 + 2) (omega arith) in
    let d = byte (0 + 2 + 1) (omega arith) in
    omega arith
