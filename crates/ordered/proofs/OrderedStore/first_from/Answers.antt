use Rattle.std.proofs.Common.{◌≡◌, ◌∙◌}
use Rattle.ordered.specs.Rows.{front}
use Rattle.ordered.specs.Slots.{pairs_of, rank}
use Rattle.ordered.specs.Ranks.{from_ok, from_err}
use Rattle.ordered.specs.SlotsLemmas.{first_there, first_past}
use Rattle.ordered.proofs.OrderedStore.first_from.Goals as goal
use Rattle.ordered.proofs.OrderedStore.first_from.Goals.{After-get, in-Ok, in-Ok-2}

at_rank : (g : _) (c : After-get g) → c.match-find.at ≡ rank (pairs_of (front c.args.self.now.slots.now c.args.self.now.len)) c.args.key
at_rank g c =
    let ps = pairs_of (front c.args.self.now.slots.now c.args.self.now.len) in
    elim c.match-find.branch [
      | in-Ok w ↦ w.at-is ∙ (from_ok ps c.args.key _ w.in-Ok.ensures.value).0
      | in-Ok-2 w ↦ w.at-is ∙ (from_err ps c.args.key _ w.in-Ok.ensures.value).0
    ]

pub returns-in_err-get : goal.returns-in_err-get
returns-in_err-get g c =
    let t = c.args.self.now in
    let r = at_rank g (goal.at.returns-in_err-get g c).After-get in
    c.from_residual.ensures ∙ first_past (front t.slots.now t.len) t.kept.1 c.args.key _ c.in_err-get.ensures.lookup.3 r

pub returns : goal.returns
returns g c =
    let t = c.args.self.now in
    let r = at_rank g (goal.at.returns g c).After-get in
    first_there (front t.slots.now t.len) t.kept.1 c.args.key _ c.in_ok-get.field-0.now c.in_ok-get.ensures.lookup.3.0 c.in_ok-get.ensures.lookup.1 r
