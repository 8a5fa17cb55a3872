-- Texts put one after another.
use Rattle.std.proofs.Common.{◌≡◌, ℕ, ◌+◌, ◌≤◌, min, List, [], ◌∷◌, ◌++◌, length, take, sym, refl, ap, ◌∙◌, ⊎_elim, append_assoc, arith, length-append, length-drop, length-take}
use Rattle.std.proofs.lemmas.List.{take_all}
use Rattle.std.proofs.lemmas.Bool.{cases_lt}
use Rattle.text.specs.Placed.{written}
use Rattle.text.proofs.Writes.{written_more, stands_none}
use Rattle.lines.specs.Line.{joined}
use Rattle.lines.specs.Writing.{Spot, put, puts}

-- a text that was written is put
pub put_written : (buf text after : List ℕ) (at end : ℕ) → end ≡ at + length text → after ≡ written buf at text → put (buf, at) text ≡ (after, end)
unfolding put
put_written buf text after at end e f = cc

-- one text and the next are their join
pub put_join : (buf text next : List ℕ) (at : ℕ) → at + length text + length next ≤ length buf → put (buf, at) (text ++ next) ≡ put (put (buf, at) text) next
unfolding put
put_join buf text next at room =
    let w : written buf at (text ++ next) ≡ written (written buf at text) (at + length text) next = sym (written_more buf text next at room) in
    let n : at + length (text ++ next) ≡ at + length text + length next = simp length-append (omega arith) in
    ap (λ (x : List ℕ). (x, at + length (text ++ next))) w ∙ ap (λ (k : ℕ). (written (written buf at text) (at + length text) next, k)) n

pub put_more : (buf text next was after : List ℕ) (at mid end : ℕ) → at + length text + length next ≤ length buf → put (buf, at) text ≡ (was, mid) → put (was, mid) next ≡ (after, end) → put (buf, at) (text ++ next) ≡ (after, end)
put_more buf text next was after at mid end room p q = put_join buf text next at room ∙ ap (λ (s : Spot). put s next) p ∙ q

-- texts and then others
pub puts-append : (s : Spot) (ts us : List (List ℕ)) → puts s (ts ++ us) ≡ puts (puts s ts) us
puts-append s [] us = refl
puts-append s (t ∷ ts) us = puts-append (put s t) ts us

put_none : (s : Spot) → put s [] ≡ s
unfolding put
put_none s =
    let none = stands_none s.0 s.1 in
    ap (λ (x : List ℕ). (x, s.1 + 0)) (sym none.bytes) ∙ ap (λ (k : ℕ). (s.0, k)) (sym none.ends)

put_end : (s : Spot) (t : List ℕ) → (put s t).1 ≡ s.1 + length t
unfolding put
put_end s t = refl

put-length : (s : Spot) (t : List ℕ) → s.1 + length t ≤ length s.0 → length (put s t).0 ≡ length s.0
unfolding put
put-length s t room = simp (length-append, length-take, length-drop) (omega arith)

-- texts one after another are their join
pub puts-joined : (s : Spot) (ts : List (List ℕ)) → s.1 + length (joined ts) ≤ length s.0 → puts s ts ≡ put s (joined ts)
puts-joined s [] room = sym (put_none s)
puts-joined s (t ∷ ts) room =
    let n : length (t ++ joined ts) ≡ length t + length (joined ts) = length-append t (joined ts) in
    let e = put_end s t in
    let l = put-length s t (omega arith) in
    puts-joined (put s t) ts (omega arith) ∙ sym (put_join s.0 t (joined ts) s.1 (omega arith))

-- where they end
pub puts_end : (s : Spot) (ts : List (List ℕ)) → (puts s ts).1 ≡ s.1 + length (joined ts)
puts_end s [] = omega arith
puts_end s (t ∷ ts) =
    let ih = puts_end (put s t) ts in
    let n : length (t ++ joined ts) ≡ length t + length (joined ts) = length-append t (joined ts) in
    let e = put_end s t in
    omega arith

pub joined-append : (ts us : List (List ℕ)) → joined (ts ++ us) ≡ joined ts ++ joined us
joined-append [] us = refl
joined-append (t ∷ ts) us = ap (λ (x : List ℕ). t ++ x) (joined-append ts us) ∙ sym (append_assoc t (joined ts) (joined us))

put_is : (buf text after : List ℕ) (at end : ℕ) → put (buf, at) text ≡ (after, end) → (end ≡ at + length text) × (after ≡ written buf at text)
unfolding put
put_is buf text after at end e = (sym (ap (λ (s : Spot). s.1) e), sym (ap (λ (s : Spot). s.0) e))

-- texts that were put and end within the buffer are written
pub puts_written : (buf after : List ℕ) (at end : ℕ) (ts : List (List ℕ)) → puts (buf, at) ts ≡ (after, end) → end ≤ length buf → (end ≡ at + length (joined ts)) × (after ≡ written buf at (joined ts))
puts_written buf after at end ts e within =
    let stop : end ≡ at + length (joined ts) = sym (ap (λ (s : Spot). s.1) e) ∙ puts_end (buf, at) ts in
    put_is buf (joined ts) after at end (sym (puts-joined (buf, at) ts (omega arith)) ∙ e)

pub take_min : (n : ℕ) (s : List ℕ) → take (min (length s) n) s ≡ take n s
take_min n s =
    ⊎_elim
    (λ long. let e : min (length s) n ≡ n = omega arith in ap (λ (k : ℕ). take k s) e)
    (λ short.
    let e : min (length s) n ≡ length s = omega arith in
    ap (λ (k : ℕ). take k s) e ∙ take_all (length s) s (omega arith) ∙ sym (take_all n s (omega arith)))
    (cases_lt n (length s))
