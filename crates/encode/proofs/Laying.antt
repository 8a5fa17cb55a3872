-- Fields laid one after another without a gap are the message's bytes, with the others behind them.
use Rattle.std.proofs.Common.{◌≡◌, ℕ, ◌+◌, true, List, [], ◌∷◌, ◌++◌, length, drop, sym, refl, ap, ◌∙◌, append_assoc, append-nil, arith, length-append}
use borrow.Rule.Slice.PartMut.{put_mid}
use Rattle.std.proofs.lemmas.List.{take_at, drop_at, drop-drop}
use Rattle.std.proofs.lemmas.Bool.{eqb-true}
use Rattle.wire.specs.Layout.{digits, fields_bytes}
use Rattle.wire.specs.Table.{Field, num, symbol, Value, figure, text}
use Rattle.decode.proofs.Back.{follows}
use Rattle.decode.proofs.Digits.{length_digits}
use Rattle.decode.proofs.Whole.{gapless}
use Rattle.encode.specs.Laying.{laid, placed, AllNarrow}
use Rattle.encode.proofs.Shapes.{shaped, never}

-- a part of the buffer that was copied over
pub pasted : (at k : ℕ) (before ys bs : List ℕ) → k ≡ length bs → ys ≡ bs → put_mid at k before ys ≡ laid at bs before
unfolding laid
pasted at k before ys bs n e = rw (e, n, drop-drop (length bs) at before)

-- one part behind those that are laid
next : (at w : ℕ) (front bs old : List ℕ) → length front ≡ at → length bs ≡ w →
    laid at bs (front ++ drop at old) ≡ (front ++ bs) ++ drop (at + w) old
unfolding laid
next at w front bs old l n =
    rw (take_at front (drop at old) at l, n)
    (ap (λ (r : List ℕ). front ++ (bs ++ r)) (sym (drop-drop w at (front ++ drop at old)) ∙ ap (drop w) (drop_at front (drop at old) at l) ∙ drop-drop w at old)
    ∙ sym (append_assoc front bs (drop (at + w) old)))

-- all of them
pub in_order : (fs : List Field) (vs : List Value) (at end : ℕ) (front old : List ℕ) → gapless at fs end ≡ true → length front ≡ at →
    shaped fs vs ≡ true → AllNarrow fs vs → placed fs vs (front ++ drop at old) ≡ (front ++ fields_bytes fs vs) ++ drop end old
in_order [] [] at end front old g l s a = let e = eqb-true at end g in rw (append-nil, e)
in_order [] (v ∷ vs) at end front old g l s a = never s
in_order (f ∷ fs) [] at end front old g l s a = never s
in_order (num k w t ∷ fs) (text q x ∷ vs) at end front old g l s a = never s
in_order (symbol k ∷ fs) (figure n ∷ vs) at end front old g l s a = never s
in_order (num k w t ∷ fs) (figure n ∷ vs) at end front old g l s a =
    let h = follows (num k w t) fs at end g in
    let e : k ≡ at = h.0 in
    let m : length (front ++ digits w n) ≡ at + w = rw (length-append, length_digits) (omega arith) in
    ap (λ (b : List ℕ). placed fs vs b) (rw e (next at w front (digits w n) old l (length_digits w n)))
    ∙ in_order fs vs (at + w) end (front ++ digits w n) old h.1 m s a.1
    ∙ ap (λ (b : List ℕ). b ++ drop end old) (append_assoc front (digits w n) (fields_bytes fs vs))
in_order (symbol k ∷ fs) (text q x ∷ vs) at end front old g l s a =
    let h = follows (symbol k) fs at end g in
    let e : k ≡ at = h.0 in
    let m : length (front ++ x) ≡ at + 8 = rw length-append (omega (arith, a.0)) in
    ap (λ (b : List ℕ). placed fs vs b) (rw e (next at 8 front x old l a.0))
    ∙ in_order fs vs (at + 8) end (front ++ x) old h.1 m s a.1
    ∙ ap (λ (b : List ℕ). b ++ drop end old) (append_assoc front x (fields_bytes fs vs))

-- the letter first
pub letter_first : (k : ℕ) (old : List ℕ) → laid 0 (k ∷ []) old ≡ (k ∷ []) ++ drop 1 old
unfolding laid
letter_first k old = refl
