use Rattle.std.proofs.Common.{◌≡◌, ℕ, true, List, ◌++◌, length, take, drop, sym, ap, ◌∙◌, arith}
use Rattle.wire.specs.Layout.{bytes_of}
use Rattle.wire.specs.Table.{Row}
use Rattle.wire.specs.Told.{told}
use Rattle.decode.specs.Decoding.{decoding}
use Rattle.encode.proofs.Again.{again, in_front}
use Rattle.encode.proofs.Answering.{writes}
use Rattle.encode.proofs.Passing.{passed_narrow}
use Rattle.encode.proofs.write.Goals as goal

pub put_message-requires : goal.put_message-requires
put_message-requires c =
    let e = ap (λ (r : Row). r.size) c.kind-kind.ensures in
    (omega arith, (omega arith, passed_narrow c.args.message.now (sym c.in_ok-judge.ensures)))

pub returns : goal.returns
returns c =
    let m = c.args.message.now in
    let n : c.size-size.result ≡ (told m).0.size = c.size-size.ensures.value ∙ ap (λ (r : Row). r.size) c.kind-kind.ensures in
    let on : (told m).0.on c.args.feed ≡ true = ap (λ (r : Row). r.on c.args.feed) (sym c.kind-kind.ensures) ∙ sym c.if-not-is_on.ensures in
    let passed = sym c.in_ok-judge.ensures in
    let narrow = passed_narrow m passed in
    let laid = c.put_message.ensures.bytes ∙ in_front c.args.feed m on passed c.put_message.ensures.widths narrow c.args.buffer.now in
    record {
      answer = writes c.args.feed (told m) (length c.args.buffer.now) c.size-size.result on passed n (omega arith);
      bytes = laid ∙ ap (λ (k : ℕ). bytes_of (told m) ++ drop k c.args.buffer.now) (sym n);
      again = ap (λ (b : List ℕ). decoding c.args.feed (take c.size-size.result b)) laid
          ∙ again c.args.feed m on passed c.put_message.ensures.widths narrow
          c.size-size.result (drop (told m).0.size c.args.buffer.now) n;
    }
