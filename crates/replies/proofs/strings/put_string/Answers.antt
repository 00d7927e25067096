use Rattle.std.proofs.Common.{[], ◌∷◌, ◌++◌, sym, ap, ◌∙◌, arith}
use Rattle.control.specs.Problems.{setup}
use Rattle.checking.specs.Traces.{string_of}
use Rattle.replies.proofs.Appending.{digits_append, digits_line, onward, retold, room}
use Rattle.replies.proofs.strings.put_string.Goals as goal

pub put_feed-requires : goal.put_feed-requires
put_feed-requires c =
    let both = onward _ _ c.put_bytes-count.ensures c.put_events-count.ensures.events in
    room _ _ both 1 (omega (arith, c.put_bytes-count.ensures.count, c.put_events-count.ensures.bound, c.requires.few, c.requires.room))

pub returns-clause-line : goal.returns-clause-line
returns-clause-line c =
    let k = c.args.number in
    let s = string_of (setup c.args.problem.now) k c.args.run.now in
    retold (ap (λ l. l ++ 10 ∷ []) (sym (digits_append (0x82 ∷ k ∷ []) s)) ∙ digits_line (0x82 ∷ k ∷ s)) (onward _ _ (onward _ _ c.put_bytes-count.ensures c.put_events-count.ensures.events) c.put_feed.ensures)

pub returns-clause-bound : goal.returns-clause-bound
returns-clause-bound c =
    omega (arith, c.put_bytes-count.ensures.count, c.put_events-count.ensures.bound, c.put_feed.ensures.count, c.requires.few)
