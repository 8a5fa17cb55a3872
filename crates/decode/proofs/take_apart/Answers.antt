use Rattle.std.proofs.Common.{◌∙◌}
use Rattle.std.proofs.lemmas.List.{take_rest}
use Rattle.decode.proofs.Parts.{joins}
use Rattle.decode.proofs.take_apart.Goals as goal

pub returns : goal.returns
returns c =
    c.read.ensures
    ∙ joins c.args.kind c.args.bytes.now c.requires.1 _ _ c.from_be_bytes-locate.ensures c.from_be_bytes-stamp.ensures
    (take_rest c.args.bytes.now 11)
