use Rattle.std.proofs.Common.{◌≡◌, ◌/◌, ◌%◌, arith}
use Rattle.frames.proofs.replies.reply.Goals as goal

pub returns : goal.returns
returns c =
    let line = c.args.line in
    let high : line / 256 % 256 ≡ line / 256 = omega arith in
    rw (← high) (rw c.to_be_bytes.ensures at c.written_out.ensures)
