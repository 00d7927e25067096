use Rattle.std.proofs.Common.{arith}
use Rattle.replies.proofs.Appending.{digits_line, length_digits, onward, retold, room}
use Rattle.replies.proofs.lines.put_line.Goals as goal

pub put_feed-requires : goal.put_feed-requires
put_feed-requires c =
    room _ _ c.put_bytes-count.ensures 1 (omega (arith, c.put_bytes-count.ensures.count, length_digits c.args.bytes.now))

pub returns : goal.returns
returns c = retold (digits_line c.args.bytes.now) (onward _ _ c.put_bytes-count.ensures c.put_feed.ensures)
