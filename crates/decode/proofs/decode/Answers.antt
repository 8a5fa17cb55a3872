use Rattle.std.proofs.Common.{◌≡◌, Ok, arith}
use Rattle.std.proofs.lemmas.Grind.{common_steps}
use Rattle.wire.specs.Told.{told}
use Rattle.decode.specs.Decoding.{decoding}
use Rattle.decode.proofs.Back.{writes_back}
use Rattle.decode.proofs.decode.Goals as goal

pub returns-clause-back : goal.returns-clause-back
returns-clause-back c =
    let e : decoding c.args.feed c.args.bytes.now ≡ Ok (told c.take_apart-message.result) = grind (arith, common_steps) in
    writes_back c.args.feed c.args.bytes.now (told c.take_apart-message.result) (λ i. omega (arith, c.type_inv.bytes i)) e
