use Rattle.std.proofs.Common.{◌≡◌, [], length, vec_items, sym, subst, arith, take_all}
use Rattle.std.proofs.ResultArms.{chosen}
use Rattle.std.proofs.lemmas.List.{get_or_default}
use Rattle.control.specs.Arrangements.{meant}
use Rattle.control.proofs.Arrangements.{keeps}
use Rattle.sessions.proofs.Promised.{promised}
use Rattle.histories.specs.Performing.{Performed}
use Rattle.histories.specs.Performing.Performed.{new}
use Rattle.histories.proofs.Turns.{one_more, as_history}
use Rattle.histories.proofs.replay.Goals as goal

pub returns-in_err-replies-clause-promises : goal.returns-in_err-replies-clause-promises
returns-in_err-replies-clause-promises g c = promised (meant c.args.arrangement.now) (keeps c.args.arrangement.now) c.args.arrangement.now.problem.now.counts.3

pub loop-call-init : goal.loop-call-init
loop-call-init g c = record {
  within = omega arith;
  count = c.in_ok-replies.ensures.len;
  room = c.in_ok-replies.ensures.capacity;
  performed = subst (λ s. Performed (meant c.args.arrangement.now) c.args.cells.now c.args.trace.now [] s c.args.cells.now c.args.trace.now) (sym c.new-session.ensures) new;
}

pub loop-call-preserved : goal.loop-call-preserved
loop-call-preserved g c =
    let so_far = c.loop-call.invariant in
    let fits = c.push.ensures.succeeds (omega (arith, so_far.count, so_far.room, c.loop-call-test.true)) in
    let pushed = chosen _ _ _ _ c.push.ensures.items fits in
    let longer = chosen _ _ _ _ c.push.ensures.len fits in
    let long : length (vec_items c.loop-call.replies) ≡ c.loop-call.call-index = omega (arith, so_far.count, c.loop-call.replies.ok.0) in
    record {
      within = omega arith;
      count = omega (arith, longer, so_far.count);
      room = omega (arith, so_far.room, c.push.ensures.capacity);
      performed = one_more _ _ _ c.args.calls.now (vec_items c.loop-call.replies) _ c.loop-call.call-index _ c.perform-reply.result _ _ _ _ _ _ c.loop-call-test.true long (get_or_default c.args.calls.now c.loop-call.call-index _ _ c.loop-call-test.true) pushed so_far.performed c.perform-reply.ensures.does c.perform-reply.ensures.lent;
    }

pub returns-clause-history : goal.returns-clause-history
returns-clause-history g c =
    let whole = take_all _ _ c.loop-call-test.false in
    as_history _ _ _ (rw whole at c.loop-call.invariant.performed)

pub returns-clause-promises : goal.returns-clause-promises
returns-clause-promises g c = promised (meant c.args.arrangement.now) (keeps c.args.arrangement.now) c.args.arrangement.now.problem.now.counts.3
