use Rattle.std.proofs.Common.{◌≤◌, length}
use Rattle.control.specs.Arrangements.{meant}
use Rattle.control.specs.Audits.{front}
use Rattle.control.specs.Strings.{Leads}
use Rattle.control.proofs.arrangement.Arrangement.audit.Given as goal

-- the list leads to the pair so far
abbrev pub invariant-loop-at : goal.invariant-loop-at
invariant-loop-at g l =
    (l.at ≤ length l.events) × Leads (meant l.self) (front l.events l.at) l.pair
