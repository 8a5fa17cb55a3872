use Rattle.std.proofs.Common.{sym, subst}
use Rattle.laws.specs.Laws.{QuoteLaws}
use Rattle.laws.proofs.Theorems.{quote_laws_of}
use Rattle.engine.specs.Engine.{engine_book}
use Rattle.engine.proofs.making.Engine.quote.Goals as goal

pub returns : goal.returns
returns g c =
    let b = engine_book g.S.Holds g.O.Holds g.M.Holds c.args.self.now in
    record {
      answer = c.best_of.ensures.answer;
      relation = c.best_of.ensures.relation;
      laws = λ m e. subst (QuoteLaws m c.args.locate) (sym c.best_of.ensures.answer) (quote_laws_of b c.args.locate m e);
    }
