use Rattle.std.proofs.Common.{◌≡◌, ◌-◌}
use Rattle.control.specs.Arrangements.{meant}
use Rattle.sessions.specs.Status.{status}
use Rattle.replies.specs.Plays.{cast_to}
use Rattle.plays.proofs.cast_missing.Given as goal

-- the sites so far have voted
abbrev pub invariant-loop-site : goal.invariant-loop-site
invariant-loop-site g l =
    status l.session ≡ cast_to (meant l.arrangement) (status l.initial.session) (l.site - 1)
