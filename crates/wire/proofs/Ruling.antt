-- The test of a symbol decides the rule.
use Rattle.std.proofs.Common.{◌≡◌, ℕ, zero, suc, ◌<◌, ◌≤◌, Bool, true, false, ◌&&◌, eqb, leb, List, [], ◌∷◌, length, get_or, Decides, sym, refl, ◌∙◌, inl, inr, arith}
use Rattle.std.proofs.lemmas.Bool.{eqb-true, eq-eqb, ne_eqb, leb-true, le-leb, and_parts, and_from, cases_Bool, cases_lt, cond-true, cond-false}
use Rattle.std.proofs.lemmas.Bool.Decides.{Decides-at}
use Rattle.wire.specs.Symbols.{Printable, SymbolRule, printable, filled, well_formed}

is_printable : (c : ℕ) → printable c ≡ true → Printable c
is_printable c p =
    let h = and_parts (leb 33 c) (leb c 126) p in
    (leb-true 33 c h.0, leb-true c 126 h.1)

from_printable : (c : ℕ) → Printable c → printable c ≡ true
from_printable c p = and_from (leb 33 c) (leb c 126) (le-leb 33 c p.0) (le-leb c 126 p.1)

-- spaces only

spaces : (cs : List ℕ) → filled true cs ≡ true → (i : ℕ) → i < length cs → get_or cs i 0 ≡ 32
spaces [] h i l = absurd (omega arith)
spaces (c ∷ cs) h zero l = eqb-true c 32 (and_parts (eqb c 32) (filled true cs) h).0
spaces (c ∷ cs) h (suc i) l = spaces cs (and_parts (eqb c 32) (filled true cs) h).1 i (omega arith)

from_spaces : (cs : List ℕ) → ((i : ℕ) → i < length cs → get_or cs i 0 ≡ 32) → filled true cs ≡ true
from_spaces [] f = refl
from_spaces (c ∷ cs) f =
    and_from (eqb c 32) (filled true cs) (eq-eqb c 32 (f 0 (omega arith))) (from_spaces cs (λ i l. f (suc i) (omega arith)))

-- printable bytes, then spaces

abbrev First : List ℕ → ℕ → Type 0
First cs n = (i : ℕ) → i < n → Printable (get_or cs i 0)

abbrev Rest : List ℕ → ℕ → Type 0
Rest cs n = (i : ℕ) → n ≤ i → i < length cs → get_or cs i 0 ≡ 32

first_more : (c : ℕ) (cs : List ℕ) (n : ℕ) → Printable c → First cs n → First (c ∷ cs) (suc n)
first_more c cs n p f zero l = p
first_more c cs n p f (suc i) l = f i (omega arith)

rest_more : (c : ℕ) (cs : List ℕ) (n : ℕ) → Rest cs n → Rest (c ∷ cs) (suc n)
rest_more c cs n f zero a b = absurd (omega arith)
rest_more c cs n f (suc i) a b = f i (omega arith) (omega arith)

run : (cs : List ℕ) → filled false cs ≡ true → (n : ℕ) × (n ≤ length cs) × First cs n × Rest cs n
run [] h = (0, omega arith, λ i l. absurd (omega arith), λ i a b. absurd (omega arith))
run (c ∷ cs) h = elim (cases_Bool (eqb c 32)) [
  | inl e ↦
      let k : filled true (c ∷ cs) ≡ true =
      and_from (eqb c 32) (filled true cs) e (sym (cond-true (eqb c 32) (filled true cs) (printable c && filled false cs) e) ∙ h) in
      (0, omega arith, λ i l. absurd (omega arith), λ i a b. spaces (c ∷ cs) k i b)
  | inr e ↦
      let k = and_parts (printable c) (filled false cs) (sym (cond-false (eqb c 32) (filled true cs) (printable c && filled false cs) e) ∙ h) in
      let r = run cs k.1 in
      (suc r.0, omega (arith, r.1), first_more c cs r.0 (is_printable c k.0) r.2, rest_more c cs r.0 r.3)
]

from_run : (cs : List ℕ) (n : ℕ) → First cs n → Rest cs n → filled false cs ≡ true
from_run [] n f g = refl
from_run (c ∷ cs) zero f g =
    cond-true (eqb c 32) (filled true cs) (printable c && filled false cs) (eq-eqb c 32 (g 0 (omega arith) (omega arith)))
    ∙ from_spaces cs (λ i l. g (suc i) (omega arith) (omega arith))
from_run (c ∷ cs) (suc n) f g =
    let p = f 0 (omega arith) in
    let ne : c ≡ 32 → ⊥ = λ e. omega (arith, p.0) in
    cond-false (eqb c 32) (filled true cs) (printable c && filled false cs) (ne_eqb c 32 ne)
    ∙ and_from (printable c) (filled false cs) (from_printable c p)
    (from_run cs n (λ i l. f (suc i) (omega arith)) (λ i a b. g (suc i) (omega arith) (omega arith)))

ruled : (s : List ℕ) → well_formed s ≡ true → SymbolRule s
ruled s h =
    let k = and_parts (eqb (length s) 8) (printable (get_or s 0 0) && filled false s) h in
    let l : length s ≡ 8 = eqb-true (length s) 8 k.0 in
    let m = and_parts (printable (get_or s 0 0)) (filled false s) k.1 in
    let p = is_printable (get_or s 0 0) m.0 in
    let r = run s m.1 in
    let g = r.3 in
    let some : 1 ≤ r.0 = elim (cases_lt 0 r.0) [
      | inl a ↦ omega arith
      | inr a ↦ absurd (omega (arith, p.0, g 0 a (omega arith)))
    ] in
    (r.0, some, omega (arith, r.1), l, r.2, λ i a b. g i a (omega arith))

from_rule : (s : List ℕ) → SymbolRule s → well_formed s ≡ true
from_rule s (n, some, most, l, f, g) =
    and_from (eqb (length s) 8) (printable (get_or s 0 0) && filled false s) (eq-eqb (length s) 8 l)
    (and_from (printable (get_or s 0 0)) (filled false s) (from_printable (get_or s 0 0) (f 0 (omega arith)))
    (from_run s n f (λ i a b. g i a (omega arith))))

pub decides : (s : List ℕ) (r : Bool) → r ≡ well_formed s → Decides r (SymbolRule s)
decides s r e = Decides-at r (well_formed s) e (ruled s, from_rule s)
