use Rattle.std.proofs.Common.{sym, subst}
use Rattle.laws.specs.Laws.{TraceLaws}
use Rattle.laws.proofs.Theorems.{trace_laws_of}
use Rattle.engine.specs.Engine.{engine_book}
use Rattle.engine.proofs.making.Engine.trace.Goals as goal

pub returns : goal.returns
returns g c =
    let b = engine_book g.S.Holds g.O.Holds g.M.Holds c.args.self.now in
    record {
      value = c.followed.ensures;
      laws = λ m e. subst (TraceLaws m c.args.match_number) (sym c.followed.ensures) (trace_laws_of b c.args.match_number m e);
    }
