-- the room that is left has what is left of the text to take; then what is left to write makes up the whole
use Rattle.std.proofs.Common.{◌≡◌, ◌+◌, ◌≤◌, length, drop}
use Rattle.text.specs.Pieces.{pieces_text}
use Rattle.text.specs.Placed.{written}
use Rattle.text.proofs.pieces.put_pieces.Given as goal

abbrev pub invariant-loop-piece : goal.invariant-loop-piece
invariant-loop-piece l = l.at + l.room + length (pieces_text l.pieces) ≡ length l.buf + length (pieces_text (drop l.piece-index l.pieces))

abbrev pub invariant-loop-piece-2 : goal.invariant-loop-piece-2
invariant-loop-piece-2 l =
    (l.at + length (pieces_text l.pieces) ≤ length l.buf)
    × (l.end + length (pieces_text (drop l.piece-index l.pieces)) ≡ l.at + length (pieces_text l.pieces))
    × (written l.buf l.end (pieces_text (drop l.piece-index l.pieces)) ≡ written l.fn.buf l.at (pieces_text l.pieces))
