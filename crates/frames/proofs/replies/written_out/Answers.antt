use Rattle.std.proofs.Common.{◌≡◌, suc, ◌+◌, ◌-◌, ◌*◌, ◌<◌, length, get_or, take, add-one, arith}
use Rattle.std.proofs.lemmas.List.{take_more, length-take-le}
use Rattle.frames.proofs.Written.{padded_more}
use Rattle.frames.proofs.replies.written_out.Goals as goal

pub loop-i-preserved : goal.loop-i-preserved
loop-i-preserved c =
    let i = c.loop-i.i in
    let bytes = c.args.bytes in
    let b = get_or bytes i 0 in
    let n = 11 - 2 * (i + 1) in
    let low : i < length bytes = omega arith in
    let left : 11 - 2 * i ≡ suc (suc n) = omega arith in
    let long : 2 * i ≡ 2 * length (take i bytes) = omega (arith, length-take-le i bytes (omega arith)) in
    let e = c.high_digit.ensures in
    let f = c.low_digit.ensures in
    let more = padded_more (take i bytes) b n (2 * i) long in
    rw (take_more bytes i 0 low, add-one (2 * i), e, f, c.loop-i.invariant, left) more
