use Rattle.std.proofs.Common.{◌-◌, ◌*◌, ◌≤◌}
use Rattle.control.specs.Problems.{setup}
use Rattle.replies.specs.Lines.{Begins, strings_to, text_of}
use Rattle.replies.proofs.strings.put_controllers.Given as goal

-- the strings of the sites so far are written
abbrev pub invariant-loop-site : goal.invariant-loop-site
invariant-loop-site l =
    record {
      written : Begins l.initial.out l.out l.count (text_of (strings_to (setup l.problem) l.event l.run (l.site - 1)));
      bound : l.count ≤ 517 * (l.site - 1);
    }
