use Rattle.std.proofs.Common.{◌≡◌, ◌-◌, ◌*◌, take}
use Rattle.frames.proofs.Written.{padded}
use Rattle.frames.proofs.replies.written_out.Given as goal

abbrev pub invariant-loop-i : goal.invariant-loop-i
invariant-loop-i l = l.line ≡ padded (take l.i l.byte-items) (11 - 2 * l.i)
