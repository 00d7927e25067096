use Rattle.std.proofs.Common.{rules}
use Rattle.control.specs.Arrangements.{meant}
use Rattle.control.proofs.Arrangements.{keeps}
use Rattle.sessions.specs.Status.{running}
use Rattle.sessions.proofs.Promised.{after_ballot}
use Rattle.sessions.proofs.session.Session.ballot.Goals as goal

pub returns-clause-equal : goal.returns-clause-equal
returns-clause-equal g c = λ h past.
    let a = c.args.arrangement.now in
    after_ballot (meant a) (keeps a) a.problem.now.counts.3 past c.args.site c.ballot.result (running c.ballot.new.self) (search rules)
