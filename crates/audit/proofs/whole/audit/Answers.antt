use Rattle.std.proofs.Common.{sym}
use Rattle.audit.proofs.whole.audit.Goals as goal

pub returns-in_ok-trades-in-Ok : goal.returns-in_ok-trades-in-Ok
returns-in_ok-trades-in-Ok c = rw (sym c.in-Ok.ensures.bytes) c.audit_over.ensures
