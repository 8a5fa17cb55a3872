use Rattle.std.proofs.Common.{sym, subst}
use Rattle.laws.specs.Laws.{StockLaws}
use Rattle.laws.proofs.Theorems.{stock_laws_of}
use Rattle.engine.specs.Engine.{engine_book}
use Rattle.engine.proofs.making.Engine.stock.Goals as goal

pub returns : goal.returns
returns g c =
    let b = engine_book g.S.Holds g.O.Holds g.M.Holds c.args.self.now in
    record {
      value = c.known_stock.ensures;
      laws = λ m e. subst (StockLaws m c.args.locate) (sym c.known_stock.ensures) (stock_laws_of b c.args.locate m e);
    }
