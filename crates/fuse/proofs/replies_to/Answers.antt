use Rattle.std.proofs.Common.{◌≤◌, rules, length, drop, ap, ◌∙◌, arith, length-take}
use Rattle.fuse.proofs.Fronts.{refilled_front}
use Rattle.fuse.proofs.replies_to.Goals as goal

-- given whole, so that a wrong answer is refused by the fact and not by a limit of the search
pub returns-in-Ok : goal.returns-in-Ok
returns-in-Ok c =
    let ran = c.in-Ok.ensures.ran.1 in
    let count = c.in-Ok.count in
    let before = c.in_ok-out.out in
    let after = c.run.new.out in
    let long : count ≤ length after = omega (arith, length-take count after, ap length ran.written.front, ran.written.count) in
    let same_length = ran.written.same_length ∙ c.deref_mut-3.ensures.len in
    let front = refilled_front count before.len after (drop (length after) before.items) long same_length in
    record {
      cells = c.deref_mut.result.now;
      cells' = c.run.new.cells;
      trace = c.deref_mut-2.result.now;
      trace' = c.run.new.trace;
      replies = ran.replies;
      so_many_cells = c.deref_mut.ensures.len ∙ c.in_ok-cells.ensures.len;
      so_many_records = c.deref_mut-2.ensures.len ∙ c.in_ok-trace.ensures.len;
      gets = ran.gets;
      stays_legal = ran.stays_legal;
      written = c.truncate.ensures.items ∙ front ∙ ran.written.front;
    }

-- by search alone: where this is false, the tactics that the check tries last run out of memory
pub returns : goal.returns
returns c = search rules
