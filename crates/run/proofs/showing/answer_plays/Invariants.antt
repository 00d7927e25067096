use Rattle.std.proofs.Common.{◌≡◌, ◌+◌, ◌*◌, ◌∷◌, take}
use Rattle.control.specs.Arrangements.{meant}
use Rattle.sessions.specs.Status.{status}
use Rattle.replies.specs.Lines.{Begins, clear, text_of}
use Rattle.replies.specs.Plays.{play_replies}
use Rattle.run.proofs.Playing.{after_plays}
use Rattle.run.proofs.showing.answer_plays.Given as goal

-- clear and the answers to the plays so far are written, and the session is the one that those plays leave
abbrev pub invariant-loop-event : goal.invariant-loop-event
invariant-loop-event g l =
    let w = meant l.arrangement in
    record {
      written : Begins l.fn.out l.out l.count (text_of (clear ∷ play_replies w (status l.initial.session) (take l.event-index l.plays)));
      after : status l.session ≡ after_plays w (status l.initial.session) (take l.event-index l.plays);
      count : l.count ≡ 3 + 15 * l.event-index;
    }
