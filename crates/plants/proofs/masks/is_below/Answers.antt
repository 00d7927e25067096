use Rattle.std.proofs.Common.{◌^◌, ◌≤◌, sym, ◌∙◌, arith, le-leb, suc}
use Rattle.std.proofs.Math.Nat.{pow-le-pow_right}
use Rattle.plants.proofs.masks.is_below.Goals as goal

pub returns-then-events-ge-EVENTS : goal.returns-then-events-ge-EVENTS
returns-then-events-ge-EVENTS c =
    let wide : 2 ^ 32 ≤ 2 ^ c.args.events = pow-le-pow_right (omega arith) c.if-events-ge-EVENTS.true in
    le-leb 32 c.args.events c.if-events-ge-EVENTS.true
    ∙ sym (le-leb (suc c.args.mask) (2 ^ c.args.events) (omega (arith, wide, c.ranges.mask.fits)))
