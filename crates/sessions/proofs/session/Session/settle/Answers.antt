use Rattle.std.proofs.Common.{rules}
use Rattle.control.specs.Arrangements.{meant}
use Rattle.control.proofs.Arrangements.{keeps}
use Rattle.sessions.specs.Status.{running}
use Rattle.sessions.proofs.Promised.{after_settlement}
use Rattle.sessions.proofs.session.Session.settle.Goals as goal

pub returns-clause-exactly : goal.returns-clause-exactly
returns-clause-exactly g c = λ h past.
    let a = c.args.arrangement.now in
    after_settlement (meant a) (keeps a) a.problem.now.counts.3 past c.settle.result (running c.settle.new.self) (search rules)
