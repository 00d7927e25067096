use Rattle.std.proofs.Common.{Err, rules}
use Rattle.control.specs.Arrangements.{meant}
use Rattle.control.proofs.Arrangements.{keeps}
use Rattle.sessions.specs.Status.{running, status}
use Rattle.sessions.specs.declared.call.Refusal.TheVariants.{Closed}
use Rattle.sessions.proofs.Promised.{event_legal, event_exact}
use Rattle.sessions.proofs.session.Session.happen.Goals as goal

pub returns-in_default-clause-legal : goal.returns-in_default-clause-legal
returns-in_default-clause-legal g c = λ h past.
    let a = c.args.arrangement.now in
    event_legal (meant a) (keeps a) a.problem.now.counts.3 past c.args.event (Err Closed) (status c.args.self.now) (search rules)

pub returns-in_default-clause-exactly : goal.returns-in_default-clause-exactly
returns-in_default-clause-exactly g c = λ h past.
    let a = c.args.arrangement.now in
    event_exact (meant a) (keeps a) a.problem.now.counts.3 past c.args.event (Err Closed) (status c.args.self.now) (search rules)

pub returns-clause-legal : goal.returns-clause-legal
returns-clause-legal g c = λ h past.
    let a = c.args.arrangement.now in
    event_legal (meant a) (keeps a) a.problem.now.counts.3 past c.args.event c.happen.result (running c.happen.new.self) (search rules)

pub returns-clause-exactly : goal.returns-clause-exactly
returns-clause-exactly g c = λ h past.
    let a = c.args.arrangement.now in
    event_exact (meant a) (keeps a) a.problem.now.counts.3 past c.args.event c.happen.result (running c.happen.new.self) (search rules)
