-- what is left to play gives what the whole does
use Rattle.std.proofs.Common.{◌≡◌, ◌-◌, ◌≤◌}
use Rattle.book.specs.Play.{plays}
use Rattle.capture.specs.Index.{messages}
use Rattle.engine.specs.Engine.{engine_book}
use Rattle.day.proofs.playing.play.Given as goal

abbrev pub invariant-loop-pair : goal.invariant-loop-pair
invariant-loop-pair g l =
    (l.pair-iterator.capture ≡ l.capture)
    × (l.start ≤ l.pair-iterator.pair)
    × (l.pair-iterator.pair ≤ l.capture.count)
    × (plays (engine_book g.S.Holds g.O.Holds g.M.Holds l.engine) l.pair-iterator.pair (l.pair-iterator.pair - l.start) (messages l.capture.bytes.now l.pair-iterator.pair (l.capture.count - l.pair-iterator.pair))
    ≡ plays (engine_book g.S.Holds g.O.Holds g.M.Holds l.initial.engine) l.start 0 (messages l.capture.bytes.now l.start (l.capture.count - l.start)))
