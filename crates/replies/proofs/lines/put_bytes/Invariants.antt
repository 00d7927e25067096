use Rattle.std.proofs.Common.{take}
use Rattle.replies.specs.Lines.{Begins, digits}
use Rattle.replies.proofs.lines.put_bytes.Given as goal

-- the digits of the bytes so far are written
abbrev pub invariant-loop-byte : goal.invariant-loop-byte
invariant-loop-byte l = Begins l.initial.out l.out l.count (digits (take l.byte-index l.bytes))
