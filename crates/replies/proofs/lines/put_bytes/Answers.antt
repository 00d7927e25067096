use Rattle.std.proofs.Common.{take, arith}
use Rattle.std.proofs.lemmas.List.{length-take-le}
use Rattle.replies.proofs.Appending.{digits_more, length_digits, onward, retold, room}
use Rattle.replies.proofs.lines.put_bytes.Goals as goal

pub put_byte-count-requires : goal.put_byte-count-requires
put_byte-count-requires c =
    let front = take c.loop-byte.byte-index c.args.bytes.now in
    room _ _ c.loop-byte.invariant 2 (omega (arith, c.loop-byte.invariant.count, length_digits front, length-take-le c.loop-byte.byte-index c.args.bytes.now (omega arith)))

pub loop-byte-preserved : goal.loop-byte-preserved
loop-byte-preserved c =
    retold (digits_more c.args.bytes.now c.loop-byte.byte-index c.loop-byte-test.true)
    (onward _ _ c.loop-byte.invariant c.put_byte-count.ensures)
