use Rattle.std.proofs.Common.{length, ap, arith}
use Rattle.quotes.specs.Levels.{levels}
use Rattle.quotes.proofs.Walks.{so_far_next, at_end, rule_of}
use Rattle.quotes.proofs.best_levels.Goals as goal

pub loop-order-preserved : goal.loop-order-preserved
loop-order-preserved g c =
    let one_less = ap length c.in-Some.ensures.steps in (
      so_far_next c.args.locate c.loop-order.quote (levels (g.O.Holds.held c.args.orders.now).pairs c.args.locate) c.loop-order.order-iterator c.loop-order.invariant.0
          c.with_order-quote.result (c.in-Some.field-0-0, c.in-Some.order) c.next.new.self c.in-Some.ensures.steps c.with_order-quote.ensures.answer,
      (omega arith, omega arith),
    )

pub returns-clause-relation : goal.returns-clause-relation
returns-clause-relation g c =
    rule_of c.args.locate c.loop-order.quote (g.O.Holds.held c.args.orders.now).pairs (g.O.Holds.sound c.args.orders.now).rising
    (at_end c.args.locate c.loop-order.quote (levels (g.O.Holds.held c.args.orders.now).pairs c.args.locate) c.loop-order.order-iterator c.loop-order.invariant.0 c.in-None.ensures.steps.0)
