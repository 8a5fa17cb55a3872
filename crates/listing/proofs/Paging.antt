-- A page of lines, one line after another.
use Rattle.std.proofs.Common.{◌≡◌, ℕ, zero, suc, ◌+◌, ◌-◌, ◌<◌, ◌≤◌, Bool, true, false, cond, List, [], ◌∷◌, ◌++◌, length, is_err, Some, None, Ok, Err, Result, sym, refl, ap, ◌∙◌, append_assoc, append-nil, arith}
use Rattle.std.proofs.lemmas.Bool.{lt-ltb, le-ltb}
use mir.Val.{bool_byte}
use Rattle.wire.specs.declared.fault.WireFault.{WireFault}
use Rattle.wire.specs.declared.message.Feed.{Feed}
use Rattle.wire.specs.declared.message.Message.{Message}
use Rattle.wire.specs.Table.{Row, Value}
use Rattle.capture.specs.declared.fault.CaptureFault.{CaptureFault}
use Rattle.capture.specs.Index.{judged, message, messages, found}
use Rattle.capture.proofs.Found.{is_found, messages_more}
use Rattle.capture.proofs.Laid.{laid}
use Rattle.decode.specs.Decoding.{decoding, told_in}
use Rattle.text.specs.Placed.{written}
use Rattle.text.proofs.Writes.{Stands, stands_none, stands_more, stands_as}
use Rattle.lines.specs.Line.{line}
use Rattle.listing.specs.Paging.{laid_out, total, lines, fitting, how_many, refused_in, page_lines}
use Rattle.listing.specs.Rewriting.{differs_as, differs}

-- an index that lays out a message has passed
passes : (r : Result ℕ CaptureFault) (k : ℕ) → k < laid_out r → r ≡ Ok (laid_out r)
passes (Ok n) k h = refl
passes (Err f) k h = absurd (omega arith)

-- every message of a capture is found
is_there : (bytes : List ℕ) (k : ℕ) → k < total bytes → found bytes k ≡ Some (message bytes k)
is_there bytes k h = is_found bytes (total bytes) k (laid bytes (judged bytes) refl (total bytes) (passes (judged bytes) k h)) h

pub is_message : (bytes m : List ℕ) (k : ℕ) → k < total bytes → Some m ≡ found bytes k → m ≡ message bytes k
is_message bytes m k h e = let f = is_there bytes k h in cc

pub never_none : (bytes : List ℕ) (k : ℕ) → k < total bytes → None ≡ found bytes k → ⊥
never_none bytes k h e = let f = is_there bytes k h in let z : ◌≡◌ {A = ℕ} 0 1 = cc in omega arith

length-messages : (bytes : List ℕ) (n k : ℕ) → length (messages bytes k n) ≡ n
length-messages bytes zero k = refl
length-messages bytes (suc n) k = ap suc (length-messages bytes n (k + 1))

-- those before it, and the next message
messages_push : (bytes : List ℕ) (n k : ℕ) → messages bytes k (suc n) ≡ messages bytes k n ++ (message bytes (k + n) ∷ [])
messages_push bytes zero k = let e : k ≡ k + 0 = omega arith in ap (λ (j : ℕ). message bytes j ∷ []) e
messages_push bytes (suc n) k =
    let e : k + 1 + n ≡ k + suc n = omega arith in
    ap (λ (ms : List (List ℕ)). message bytes k ∷ ms) (messages_push bytes n (k + 1) ∙ ap (λ (j : ℕ). messages bytes (k + 1) n ++ (message bytes j ∷ [])) e)

pub messages_split : (bytes : List ℕ) (n k j : ℕ) → messages bytes k (n + j) ≡ messages bytes k n ++ messages bytes (k + n) j
messages_split bytes zero k j =
    let e : k ≡ k + 0 = omega arith in
    let f : 0 + j ≡ j = omega arith in
    ap (messages bytes k) f ∙ ap (λ (i : ℕ). messages bytes i j) e
messages_split bytes (suc n) k j =
    let e : k + 1 + n ≡ k + suc n = omega arith in
    let f : suc n + j ≡ suc (n + j) = omega arith in
    ap (messages bytes k) f
    ∙ ap (λ (ms : List (List ℕ)). message bytes k ∷ ms) (messages_split bytes n (k + 1) j ∙ ap (λ (i : ℕ). messages bytes (k + 1) n ++ messages bytes i j) e)

messages_next : (bytes : List ℕ) (s i : ℕ) → s ≤ i → messages bytes s (i + 1 - s) ≡ messages bytes s (i - s) ++ (message bytes i ∷ [])
messages_next bytes s i h =
    let e : i + 1 - s ≡ suc (i - s) = omega arith in
    let f : s + (i - s) ≡ i = omega arith in
    ap (messages bytes s) e ∙ messages_push bytes (i - s) s ∙ ap (λ (j : ℕ). messages bytes s (i - s) ++ (message bytes j ∷ [])) f

lines_push : (f : Feed) (k : ℕ) (ms : List (List ℕ)) (m : List ℕ) → lines f k (ms ++ (m ∷ [])) ≡ lines f k ms ++ line (k + length ms) (decoding f m)
lines_push f k [] m = let e : k ≡ k + 0 = omega arith in append-nil (line k (decoding f m)) ∙ ap (λ (j : ℕ). line j (decoding f m)) e
lines_push f k (x ∷ ms) m =
    let e : k + 1 + length ms ≡ k + suc (length ms) = omega arith in
    ap (λ (t : List ℕ). line k (decoding f x) ++ t) (lines_push f (k + 1) ms m)
    ∙ sym (append_assoc (line k (decoding f x)) (lines f (k + 1) ms) (line (k + 1 + length ms) (decoding f m)))
    ∙ ap (λ (j : ℕ). (line k (decoding f x) ++ lines f (k + 1) ms) ++ line j (decoding f m)) e

how_many-append : (test : List ℕ → Bool) (ms ns : List (List ℕ)) → how_many test (ms ++ ns) ≡ how_many test ms + how_many test ns
how_many-append test [] ns = omega arith
how_many-append test (m ∷ ms) ns = let ih = how_many-append test ms ns in omega arith

one_or_none : (b : Bool) → cond b 1 0 ≤ 1
one_or_none true = omega arith
one_or_none false = omega arith

pub at_most_one : (b : Bool) (n : ℕ) → n ≡ cond b 1 0 → n ≤ 1
at_most_one b n e = rw e (one_or_none b)

how_many_le : (test : List ℕ → Bool) (ms : List (List ℕ)) → how_many test ms ≤ length ms
how_many_le test [] = omega arith
how_many_le test (m ∷ ms) = let ih = how_many_le test ms in let h = one_or_none (test m) in omega arith

-- how many pass a test on both sides of a pair
module _ (test : List ℕ → Bool) (bytes : List ℕ) (n j a b : ℕ) (before : a ≡ how_many test (messages bytes 0 n)) (behind : b ≡ how_many test (messages bytes n j)) where
  pub how_many_split : a + b ≡ how_many test (messages bytes 0 (n + j))
  how_many_split =
      let e : 0 + n ≡ n = omega arith in
      let m : messages bytes 0 (n + j) ≡ messages bytes 0 n ++ messages bytes n j = messages_split bytes n 0 j ∙ ap (λ (k : ℕ). messages bytes 0 n ++ messages bytes k j) e in
      let r = ap (how_many test) m ∙ how_many-append test (messages bytes 0 n) (messages bytes n j) in
      omega arith

  pub how_many_few : a + b ≤ n + j
  how_many_few =
      let r = how_many_split in
      let l = how_many_le test (messages bytes 0 (n + j)) in
      let h = length-messages bytes (n + j) 0 in
      omega arith

-- one more message, counted
how_many_next : (test : List ℕ → Bool) (bytes m : List ℕ) (s i a b : ℕ) → s ≤ i → m ≡ message bytes i → a ≡ how_many test (messages bytes s (i - s)) → b ≡ cond (test m) 1 0 → a + b ≡ how_many test (messages bytes s (i + 1 - s))
how_many_next test bytes m s i a b h is before adds =
    let ms = messages bytes s (i - s) in
    let e : how_many test (messages bytes s (i + 1 - s)) ≡ how_many test (ms ++ (m ∷ [])) =
    ap (how_many test) (messages_next bytes s i h) ∙ ap (λ (x : List ℕ). how_many test (ms ++ (x ∷ []))) (sym is) in
    let c = how_many-append test ms (m ∷ []) in
    let z : how_many test (m ∷ []) ≡ b + 0 = ap (λ (n : ℕ). n + 0) (sym adds) in
    omega arith

-- what decoding answers
abbrev Decoded : Type 0
Decoded = Result (Row × List Value) WireFault

-- a `bool` as a number
pub as_number : (b : Bool) → bool_byte b ≡ cond b 1 0
as_number true = refl
as_number false = refl

pub is_err-told : (d : Result Message WireFault) → is_err d ≡ is_err (told_in d)
is_err-told (Ok m) = refl
is_err-told (Err f) = refl

-- how far a page has come: the lines up to pair i stand, and what is left fits as the whole does
pub record Going (f : Feed) (bytes : List ℕ) (s : ℕ) (buf : List ℕ) (i refused differ at : ℕ) (now-buf : List ℕ) : Type 0 where
  pub from : s ≤ i
  pub upto : i ≤ total bytes
  pub stands : Stands buf 0 (lines f s (messages bytes s (i - s))) now-buf at
  pub left : i - s + fitting f (length buf - at) i (messages bytes i (total bytes - i)) ≡ page_lines f bytes s (length buf)
  pub counts : refused ≡ how_many (refused_in f) (messages bytes s (i - s))
  pub compares : differ ≡ how_many (differs f) (messages bytes s (i - s))
  pub few : (refused ≤ i - s) × (differ ≤ i - s)
  pub fits : at ≤ length buf

module _ (f : Feed) (bytes : List ℕ) (s : ℕ) (buf : List ℕ) where
  pub going_none : s ≤ total bytes → Going f bytes s buf s 0 0 0 buf
  going_none h =
      let e : 0 ≡ s - s = omega arith in
      let z : length buf - 0 ≡ length buf = omega arith in
      record {
        from = omega arith;
        upto = h;
        stands = stands_as _ (stands_none buf 0) (ap (λ (n : ℕ). lines f s (messages bytes s n)) e);
        left = ap (λ (n : ℕ). n + fitting f (length buf - 0) s (messages bytes s (total bytes - s))) (sym e) ∙ ap (λ (n : ℕ). 0 + fitting f n s (messages bytes s (total bytes - s))) z ∙ omega arith;
        counts = ap (λ (n : ℕ). how_many (refused_in f) (messages bytes s n)) e;
        compares = ap (λ (n : ℕ). how_many (differs f) (messages bytes s n)) e;
        few = (omega arith, omega arith);
        fits = omega arith;
      }

  module _ (i refused differ at : ℕ) (was : List ℕ) (so : Going f bytes s buf i refused differ at was) where
    -- the page's end, where nothing more fits
    going_end : fitting f (length buf - at) i (messages bytes i (total bytes - i)) ≡ 0 → i - s ≡ page_lines f bytes s (length buf)
    going_end z = let l = so.left in omega arith

    pub going_full : i < total bytes → length buf < at + 256 → i - s ≡ page_lines f bytes s (length buf)
    going_full h short =
        let few : length buf - at < 256 = omega arith in
        going_end (ap (fitting f (length buf - at) i) (messages_more bytes (total bytes) i h) ∙ rw (lt-ltb (length buf - at) 256 few))

    -- what stands at the end
    pub going_stands : (n : ℕ) → i - s ≡ n → Stands buf 0 (lines f s (messages bytes s n)) was at
    going_stands n e = stands_as _ so.stands (ap (λ (k : ℕ). lines f s (messages bytes s k)) e)

    -- one more line, of what was decoded
    module _ (m after : List ℕ) (end one other : ℕ) (d : Decoded) (more : i < total bytes) (room : at + 256 ≤ length buf)
        (is : m ≡ message bytes i) (dec : d ≡ decoding f m) (ends : end ≡ at + length (line i d)) (puts : after ≡ written was at (line i d))
        (ones : one ≡ cond (is_err d) 1 0) (others : other ≡ cond (differs_as f d m) 1 0) (within : end ≤ length buf) where
      next_line : lines f s (messages bytes s (i - s)) ++ line i d ≡ lines f s (messages bytes s (i + 1 - s))
      next_line =
          let ms = messages bytes s (i - s) in
          let h = so.from in
          let n = length-messages bytes (i - s) s in
          let e : i ≡ s + length ms = omega arith in
          ap (λ (x : Decoded). lines f s ms ++ line i x) dec
          ∙ ap (λ (j : ℕ). lines f s ms ++ line j (decoding f m)) e
          ∙ sym (lines_push f s ms m)
          ∙ ap (λ (x : List ℕ). lines f s (ms ++ (x ∷ []))) is
          ∙ ap (lines f s) (sym (messages_next bytes s i so.from))

      next_left : fitting f (length buf - at) i (messages bytes i (total bytes - i)) ≡ suc (fitting f (length buf - end) (i + 1) (messages bytes (i + 1) (total bytes - (i + 1))))
      next_left =
          let wide : 256 ≤ length buf - at = omega arith in
          let e : length buf - at - length (line i d) ≡ length buf - end = omega arith in
          let rest = messages bytes (i + 1) (total bytes - (i + 1)) in
          ap (fitting f (length buf - at) i) (messages_more bytes (total bytes) i more)
          ∙ ap (λ (x : List ℕ). fitting f (length buf - at) i (x ∷ rest)) (sym is)
          ∙ rw (le-ltb (length buf - at) 256 wide) refl
          ∙ ap (λ (x : Decoded). suc (fitting f (length buf - at - length (line i x)) (i + 1) rest)) (sym dec)
          ∙ ap (λ (n : ℕ). suc (fitting f n (i + 1) rest)) e

      pub going_more : Going f bytes s buf (i + 1) (refused + one) (differ + other) end after
      going_more =
          let h = so.from in
          let l = so.left in
          let w = next_left in
          let g = so.few in
          let a = at_most_one (is_err d) one ones in
          let b = at_most_one (differs_as f d m) other others in
          record {
            from = omega arith;
            upto = omega arith;
            stands = stands_as _ (stands_more (line i d) after end so.stands (omega arith) puts ends) next_line;
            left = omega arith;
            counts = how_many_next (refused_in f) bytes m s i refused one h is so.counts (ones ∙ ap (λ (x : Decoded). cond (is_err x) 1 0) dec);
            compares = how_many_next (differs f) bytes m s i differ other h is so.compares (others ∙ ap (λ (x : Decoded). cond (differs_as f x m) 1 0) dec);
            few = (omega arith, omega arith);
            fits = within;
          }

-- a buffer with room for a line takes one, where one is left
pub page_some : (f : Feed) (bytes : List ℕ) (k room : ℕ) → k < total bytes → 256 ≤ room → 0 < page_lines f bytes k room
page_some f bytes k room more wide =
    let rest = messages bytes (k + 1) (total bytes - (k + 1)) in
    let m = message bytes k in
    let e : page_lines f bytes k room ≡ fitting f room k (m ∷ rest) = ap (fitting f room k) (messages_more bytes (total bytes) k more) in
    let s : fitting f room k (m ∷ rest) ≡ suc (fitting f (room - length (line k (decoding f m))) (k + 1) rest) = rw (le-ltb room 256 wide) refl in
    omega (arith, e, s)
