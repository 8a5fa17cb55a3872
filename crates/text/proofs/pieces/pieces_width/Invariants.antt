-- what is summed up, and what is left, are the whole
use Rattle.std.proofs.Common.{◌≡◌, ◌+◌, length, drop}
use Rattle.text.specs.Pieces.{pieces_text}
use Rattle.text.proofs.pieces.pieces_width.Given as goal

abbrev pub invariant-loop-piece : goal.invariant-loop-piece
invariant-loop-piece l = l.sum + length (pieces_text (drop l.piece-index l.pieces)) ≡ length (pieces_text l.pieces)
