use Rattle.control.specs.Arrangements.{meant}
use Rattle.control.proofs.Arrangements.{keeps}
use Rattle.sessions.specs.Status.{running}
use Rattle.sessions.proofs.Rooms.{brought, numbers}
use Rattle.sessions.proofs.session.Open.pairs.Goals as goal

pub unwrap-requires : goal.unwrap-requires
unwrap-requires g c =
    let w = meant c.args.arrangement.now in
    numbers w _ c.of.result c.of.ensures (keeps c.args.arrangement.now) (brought w (running c.args.self.now) c.args.self.now.few c.requires)
