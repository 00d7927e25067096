use Rattle.std.proofs.Common.{◌≡◌, ◌≤◌, length, take, vec_items, vec_len}
use Rattle.std.specs.Vec.{vec_capacity}
use Rattle.control.specs.Arrangements.{meant}
use Rattle.sessions.specs.Status.{status}
use Rattle.histories.specs.Lists.{exchanges}
use Rattle.histories.specs.Performing.{Performed}
use Rattle.histories.proofs.replay.Given as goal

-- the calls so far, with their replies, were performed and lead to the session, the cells and the trace
abbrev pub invariant-loop-call : goal.invariant-loop-call
invariant-loop-call g l =
    record {
      within : l.call-index ≤ length l.calls;
      count : vec_len l.replies ≡ l.call-index;
      room : length l.calls ≤ vec_capacity l.replies;
      performed : Performed (meant l.arrangement) l.initial.cells l.initial.trace (exchanges (take l.call-index l.calls) (vec_items l.replies)) (status l.session) l.cells l.trace;
    }
