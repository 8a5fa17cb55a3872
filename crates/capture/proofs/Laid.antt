-- An index that is not refused keeps the messages apart.
use Rattle.std.proofs.Common.{◌≡◌, ℕ, zero, suc, ◌+◌, ◌*◌, ◌<◌, ◌≤◌, List, length, Ok, Err, Result, sym, ◌∙◌, subst, ⊎_elim, eq-or-lt_of_le, arith}
use Rattle.std.proofs.lemmas.Bool.{lt-ltb, le-ltb, cases_lt}
use Rattle.capture.specs.declared.fault.CaptureFault.{CaptureFault}
use Rattle.capture.specs.declared.fault.CaptureFault.TheVariants.{Cut, Overlaps, Overruns}
use Rattle.capture.specs.Index.{count, start, end, judged_from, judged, Laid}

never : (r : Result ℕ CaptureFault) (f : CaptureFault) (n : ℕ) → r ≡ Err f → r ≡ Ok n → ⊥
never r f n p q = let z : ◌≡◌ {A = ℕ} 0 1 = cc in omega arith

-- the messages from k on
record Rest (bytes : List ℕ) (left k before n : ℕ) : Type 0 where
  all : n ≡ k + left
  behind : (j : ℕ) → k ≤ j → j < n → before ≤ start bytes j
  within : (j : ℕ) → k ≤ j → j < n → end bytes j ≤ length bytes
  apart : (i j : ℕ) → k ≤ i → i < j → j < n → end bytes i ≤ start bytes j

-- one more in front
rest_more : (bytes : List ℕ) (left k before n : ℕ) → before ≤ start bytes k → end bytes k ≤ length bytes → Rest bytes left (k + 1) (end bytes k) n → Rest bytes (suc left) k before n
rest_more bytes left k before n behind within more =
    let all = more.all in
    record {
      all = omega arith;
      behind = λ j h l. ⊎_elim (λ e. subst (λ (m : ℕ). before ≤ start bytes m) e behind) (λ past. omega (arith, more.behind j (omega arith) l)) (eq-or-lt_of_le h);
      within = λ j h l. ⊎_elim (λ e. subst (λ (m : ℕ). end bytes m ≤ length bytes) e within) (λ past. more.within j (omega arith) l) (eq-or-lt_of_le h);
      apart = λ i j h l m. ⊎_elim (λ e. subst (λ (x : ℕ). end bytes x ≤ start bytes j) e (more.behind j (omega arith) m)) (λ past. more.apart i j (omega arith) l m) (eq-or-lt_of_le h);
    }

rest : (bytes : List ℕ) (left k before n : ℕ) → judged_from bytes left k before ≡ Ok n → Rest bytes left k before n
rest bytes zero k before n e =
    let same : k ≡ n = cc in
    record { all = omega arith; behind = λ j h l. absurd (omega arith); within = λ j h l. absurd (omega arith); apart = λ i j h l m. absurd (omega arith) }
rest bytes (suc left) k before n e =
    let here = judged_from bytes (suc left) k before in
    ⊎_elim
    (λ bad. absurd (never here (Overlaps k) n (rw (lt-ltb (start bytes k) before bad)) e))
    (λ behind.
    ⊎_elim
    (λ bad. absurd (never here (Overruns k) n (rw (le-ltb (start bytes k) before behind, lt-ltb (length bytes) (end bytes k) bad)) e))
    (λ within.
    let on : here ≡ judged_from bytes left (k + 1) (end bytes k) = rw (le-ltb (start bytes k) before behind, le-ltb (length bytes) (end bytes k) within) in
    rest_more bytes left k before n behind within (rest bytes left (k + 1) (end bytes k) n (sym on ∙ e)))
    (cases_lt (length bytes) (end bytes k)))
    (cases_lt (start bytes k) before)

pub laid : (bytes : List ℕ) (r : Result ℕ CaptureFault) → r ≡ judged bytes → (n : ℕ) → r ≡ Ok n → Laid bytes n
laid bytes r v n e =
    ⊎_elim
    (λ bad. absurd (never (judged bytes) Cut n (rw (lt-ltb (length bytes) 4 bad)) (sym v ∙ e)))
    (λ some.
    ⊎_elim
    (λ bad. absurd (never (judged bytes) Cut n (rw (le-ltb (length bytes) 4 some, lt-ltb (length bytes) (4 + 6 * count bytes) bad)) (sym v ∙ e)))
    (λ fits.
    let on : judged bytes ≡ judged_from bytes (count bytes) 0 (4 + 6 * count bytes) = rw (le-ltb (length bytes) 4 some, le-ltb (length bytes) (4 + 6 * count bytes) fits) in
    let whole = rest bytes (count bytes) 0 (4 + 6 * count bytes) n (sym on ∙ sym v ∙ e) in
    let all : n ≡ count bytes = omega (arith, whole.all) in
    record {
      all = all;
      behind = λ k h. omega (arith, whole.behind k (omega arith) h);
      within = λ k h. whole.within k (omega arith) h;
      apart = λ j k h l. whole.apart j k (omega arith) h l;
    })
    (cases_lt (length bytes) (4 + 6 * count bytes)))
    (cases_lt (length bytes) 4)
