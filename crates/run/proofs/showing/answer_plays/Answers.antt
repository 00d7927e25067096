use Rattle.std.proofs.Common.{◌≡◌, ◌++◌, length, get_or, sym, ap, ◌∙◌, arith}
use Rattle.control.specs.Arrangements.{meant}
use Rattle.frames.specs.Replies.{written}
use Rattle.sessions.specs.Status.{status}
use Rattle.replies.specs.Lines.{bytes_of, clear}
use Rattle.replies.specs.Plays.{after_play, play_reply}
use Rattle.replies.specs.Writing.{reply}
use Rattle.replies.proofs.Appending.{onward, retold}
use Rattle.run.proofs.Playing.{after_more, no_plays, replies_more}
use Rattle.run.proofs.showing.answer_plays.Goals as goal

pub loop-event-init : goal.loop-event-init
loop-event-init g c =
    record { written = c.put-count.ensures; after = sym (no_plays _ (status c.args.session.now)); count = c.put-count.ensures.count }

pub loop-event-preserved : goal.loop-event-preserved
loop-event-preserved g c =
    let w = meant c.args.arrangement.now in
    let s = status c.args.session.now in
    let es = c.args.plays.now in
    let i = c.loop-event.event-index in
    let was = c.loop-event.invariant in
    let low = c.loop-event-test.true in
    let answer = c.play-reply.ensures.value ∙ ap (λ t. play_reply w t (get_or es i 0)) was.after in
    let line = ap (λ r. written (bytes_of r)) answer in
    let long : length (written (bytes_of (reply c.play-reply.result))) ≡ 15 = ap length line in
    record {
      written = retold (ap (λ l. written (bytes_of clear) ++ l) (replies_more w s es i low)) (onward _ _ was.written (retold line c.put-count-in-loop-event.ensures));
      after = c.play-reply.ensures.after ∙ ap (λ t. after_play w t (get_or es i 0)) was.after ∙ after_more w s es i low;
      count = omega (arith, c.put-count-in-loop-event.ensures.count, long, was.count);
    }
