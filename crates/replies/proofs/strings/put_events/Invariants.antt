use Rattle.std.proofs.Common.{◌*◌, ◌≤◌, take}
use Rattle.control.specs.Problems.{setup}
use Rattle.theory.specs.Tuples.{spelled}
use Rattle.replies.specs.Lines.{Begins, digits}
use Rattle.replies.proofs.strings.put_events.Given as goal

-- the events of the moves so far in which the component takes part are written
abbrev pub invariant-loop-step : goal.invariant-loop-step
invariant-loop-step l =
    record {
      written : Begins l.initial.out l.out l.count (digits (spelled (setup l.problem) l.number (take l.step-index l.run)));
      bound : l.count ≤ 2 * l.step-index;
    }
