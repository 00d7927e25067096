use Rattle.std.proofs.Common.{reverse, sym, ap, ◌∙◌, add-one, arith, take_all}
use Rattle.control.proofs.Audits.{halts, leads_on}
use Rattle.control.proofs.arrangement.Arrangement.audit.Goals as goal

pub loop-at-init : goal.loop-at-init
loop-at-init g c = (omega arith, c.first-pair.ensures)

pub returns-in-Err : goal.returns-in-Err
returns-in-Err g c =
    let so_far = c.loop-at.invariant.1 in
    (c.loop-at-test.true, (c.loop-at.pair, so_far), halts _ _ _ _ c.loop-at-test.true so_far _ (sym c.follow.ensures ∙ c.in-Err.is))

pub loop-at-preserved : goal.loop-at-preserved
loop-at-preserved g c =
    (omega arith, rw add-one (leads_on _ _ _ _ c.loop-at-test.true c.loop-at.invariant.1 _ (sym c.follow.ensures ∙ c.in-Ok.is)))

pub returns : goal.returns
returns g c =
    let whole = ap reverse (take_all _ _ c.loop-at-test.false) in
    (c.loop-at.pair, rw whole at c.loop-at.invariant.1)
