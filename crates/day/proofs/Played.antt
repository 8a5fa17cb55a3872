-- One message of a judged capture, and how playing goes on after it.
use Rattle.std.proofs.Common.{◌≡◌, ℕ, ◌+◌, ◌-◌, ◌<◌, ◌≤◌, List, Ok, Err, Result, sym, refl, ap, ◌∙◌, arith}
use Rattle.std.specs.Result.{is_ok}
use Rattle.std.proofs.lemmas.Bool.{lt-ltb, le-ltb}
use Rattle.capture.specs.declared.fault.CaptureFault.TheVariants.{StartsPast}
use Rattle.capture.specs.Index.{judged, message, messages}
use Rattle.capture.proofs.Found.{messages_more}
use Rattle.book.specs.declared.fault.FeedFault.{FeedFault}
use Rattle.book.specs.declared.fault.PlayFault.TheVariants.{Index, Message}
use Rattle.book.specs.Book.{Book, after}
use Rattle.book.specs.Feed.{fed, count}
use Rattle.book.specs.Play.{Played, go_on, plays, played_as, played}

-- an accepted message goes on, a refused one stops
goes_as : (b b' : Book) (k c : ℕ) (x : Result Book FeedFault) (on : Book → Played) → Ok c ≡ count x → b' ≡ after b x → go_on b k x on ≡ on b'
goes_as b b' k c (Ok y) on p q = ap on (sym q)
goes_as b b' k c (Err e) on p q = absurd (let z : ◌≡◌ {A = ℕ} 0 1 = cc in omega arith)

stops_as : (b b' : Book) (k : ℕ) (f : FeedFault) (x : Result Book FeedFault) (on : Book → Played) → Err f ≡ count x → b' ≡ after b x → go_on b k x on ≡ (Err (Message k f), b')
stops_as b b' k f (Ok y) on p q = absurd (let z : ◌≡◌ {A = ℕ} 0 1 = cc in omega arith)
stops_as b b' k f (Err e) on p q = cc

module _ (bytes m : List ℕ) (n s k : ℕ) (b b' : Book) (from : s ≤ k) (more : k < n) (is : m ≡ message bytes k) (left : b' ≡ after b (fed b m)) where
  -- what is left to play
  step : plays b k (k - s) (messages bytes k (n - k)) ≡ go_on b k (fed b m) (λ c. plays c (k + 1) (k - s + 1) (messages bytes (k + 1) (n - (k + 1))))
  step =
      ap (plays b k (k - s)) (messages_more bytes n k more)
      ∙ ap (λ (x : List ℕ). go_on b k (fed b x) (λ c. plays c (k + 1) (k - s + 1) (messages bytes (k + 1) (n - (k + 1))))) (sym is)

  pub goes : (c : ℕ) → Ok c ≡ count (fed b m) → plays b k (k - s) (messages bytes k (n - k)) ≡ plays b' (k + 1) (k + 1 - s) (messages bytes (k + 1) (n - (k + 1)))
  goes c p =
      let e : k - s + 1 ≡ k + 1 - s = omega arith in
      step ∙ goes_as b b' k c (fed b m) _ p left ∙ ap (λ (i : ℕ). plays b' (k + 1) i (messages bytes (k + 1) (n - (k + 1)))) e

  pub stops : (f : FeedFault) → Err f ≡ count (fed b m) → plays b k (k - s) (messages bytes k (n - k)) ≡ (Err (Message k f), b')
  stops f p = step ∙ stops_as b b' k f (fed b m) _ p left

module _ (b : Book) (bytes : List ℕ) (s n : ℕ) (j : Ok n ≡ judged bytes) where
  pub starts_past : n < s → played b bytes s ≡ (Err (Index (StartsPast s)), b)
  starts_past h = ap (played_as b bytes s) (sym j) ∙ rw (lt-ltb n s h)

  pub starts : s ≤ n → played b bytes s ≡ plays b s 0 (messages bytes s (n - s))
  starts h = ap (played_as b bytes s) (sym j) ∙ rw (le-ltb n s h)

-- nothing is left
pub ends : (bytes : List ℕ) (n s k : ℕ) (b : Book) → k ≡ n → plays b k (k - s) (messages bytes k (n - k)) ≡ (Ok (n - s), b)
ends bytes n s k b e =
    let none : n - k ≡ 0 = omega arith in
    let same : k - s ≡ n - s = omega arith in
    ap (λ (i : ℕ). plays b k (k - s) (messages bytes k i)) none ∙ ap (λ (i : ℕ). (Ok i, b)) same

-- what is refused has a fault
pub refused_by : {E : Type 0} (r : Result ℕ FeedFault) (q : Result ℕ E) (e : E) → is_ok q ≡ is_ok r → q ≡ Err e → (f : FeedFault) × (r ≡ Err f)
refused_by (Err f) q e p h = (f, refl)
refused_by (Ok x) (Err g) e p h = absurd (let z : ◌≡◌ {A = ℕ} 0 1 = cc in omega arith)
refused_by (Ok x) (Ok y) e p h = absurd (let z : ◌≡◌ {A = ℕ} 0 1 = cc in omega arith)
