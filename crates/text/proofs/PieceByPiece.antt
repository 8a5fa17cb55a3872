-- The pieces of a text, one by one.
use Rattle.std.proofs.Common.{◌≡◌, ℕ, ◌+◌, ◌<◌, ◌≤◌, List, ◌++◌, length, get_or, drop, sym, ap, ◌∙◌, length-append, arith}
use Rattle.std.proofs.lemmas.List.{at_drop_more}
use Rattle.text.specs.declared.pieces.Piece.{Piece}
use Rattle.text.specs.Pieces.{piece_text, pieces_text}
use Rattle.text.specs.Placed.{written}
use Rattle.text.proofs.Writes.{written_more}

-- the text from a piece on
module _ (ps : List Piece) (i : ℕ) (d : Piece) (more : i < length ps) where
  pub text_next : pieces_text (drop i ps) ≡ piece_text (get_or ps i d) ++ pieces_text (drop (i + 1) ps)
  text_next = at_drop_more pieces_text ps i d more

  pub length-text_next : length (pieces_text (drop i ps)) ≡ length (piece_text (get_or ps i d)) + length (pieces_text (drop (i + 1) ps))
  length-text_next = ap length text_next ∙ length-append (piece_text (get_or ps i d)) (pieces_text (drop (i + 1) ps))

  -- one more piece is written: what is left of the text follows it
  pub put_next : (buf after : List ℕ) (at end : ℕ) → at + length (pieces_text (drop i ps)) ≤ length buf →
      end ≡ at + length (piece_text (get_or ps i d)) → after ≡ written buf at (piece_text (get_or ps i d)) →
      (end + length (pieces_text (drop (i + 1) ps)) ≡ at + length (pieces_text (drop i ps)))
      × (written after end (pieces_text (drop (i + 1) ps)) ≡ written buf at (pieces_text (drop i ps)))
  put_next buf after at end room e f =
      let p = piece_text (get_or ps i d) in
      let rest = pieces_text (drop (i + 1) ps) in
      let l = length-text_next in (
        omega arith,
        ap (λ (b : List ℕ). written b end rest) f
            ∙ ap (λ (k : ℕ). written (written buf at p) k rest) e
            ∙ written_more buf p rest at (omega arith)
            ∙ ap (written buf at) (sym text_next),
      )
