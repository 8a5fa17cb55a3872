use Rattle.std.proofs.Common.{ap, ◌∙◌, arith}
use Rattle.wire.specs.Table.{Row}
use Rattle.encode.proofs.Again.{all_widths, placed_behind, rest_narrow}
use Rattle.encode.proofs.put_message.Goals as goal

pub put_fields-requires : goal.put_fields-requires
put_fields-requires c = (omega arith, rest_narrow c.args.message.now c.requires.1.1)

pub returns : goal.returns
returns c =
    let m = c.args.message.now in
    record {
      bytes = c.put_fields.ensures.bytes
          ∙ placed_behind m c.head.result c.letter.result c.put_head.new.buffer c.args.buffer.now c.head.ensures
          (c.letter.ensures.value ∙ ap (λ (r : Row). r.letter) c.kind.ensures) c.put_head.ensures.bytes;
      widths = all_widths m c.head.result c.head.ensures c.put_head.ensures.width c.put_fields.ensures.widths;
    }
