use Rattle.std.proofs.Common.{◌≡◌}
use Rattle.plants.specs.Masks.{mask_of}
use Rattle.control.specs.Problems.{setup}
use Rattle.theory.specs.Rules.{fusion}
use Rattle.sessions.specs.Calls.{said}
use Rattle.sessions.specs.Status.{running}
use Rattle.sessions.proofs.session.Open.fuse.Given as goal

abbrev pub invariant-loop-event : goal.invariant-loop-event
invariant-loop-event l = l.mask ≡ mask_of l.event (λ e. fusion (setup l.problem) e (λ i. said (running l.self) i e))
