use Rattle.std.proofs.Common.{◌∙◌, arith}
use Rattle.text.proofs.PieceByPiece.{put_next}
use Rattle.text.proofs.pieces.put_pieces.Goals as goal

pub loop-piece-2-preserved : goal.loop-piece-2-preserved
loop-piece-2-preserved c =
    let l = c.loop-piece-2 in
    let i = l.invariant in
    let p = c.put_piece-end in
    let n = put_next c.args.pieces.now l.piece-index _ c.loop-piece-2-test.true l.buf p.new.buf l.end p.result (omega arith) p.ensures.end p.ensures.after in
    (omega arith, n.0 ∙ i.1, n.1 ∙ i.2)
