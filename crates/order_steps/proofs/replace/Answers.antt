use Rattle.std.proofs.Common.{◌≡◌, false, Some, arith, rules}
use Rattle.store.specs.Held.{Held, find, has}
use Rattle.store.proofs.Maps.{put_after_take_out}
use Rattle.book.specs.declared.value.Order.{Order}
use Rattle.order_steps.proofs.replace.Goals as goal

-- the original leaves a place for the new order
pub returns : goal.returns
returns g c =
    let h : Held Order = g.O.Holds.held c.args.ledger.now.orders in
    let f : find h c.args.m.now.original ≡ Some c.in_ok-order.order = grind (arith, c.in_ok-order.ensures) in
    let n : has h c.args.m.now.new_reference ≡ false = grind (arith, c.in_ok-unless.ensures, c.contains.ensures) in
    let o : Order = c.in_ok-order.order in
    let v : Order = record { locate = o.locate; side = o.side; price = c.args.m.now.price; shares = c.args.m.now.shares } in
    let e = put_after_take_out h c.args.m.now.original c.args.m.now.new_reference v o (g.O.Holds.sound c.args.ledger.now.orders) f n in
    search rules
