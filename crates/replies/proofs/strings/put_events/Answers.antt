use Rattle.std.proofs.Common.{[], ◌∷◌, get_or, take, sym, ap, ◌∙◌, arith, take_all}
use Rattle.control.specs.Problems.{setup}
use Rattle.theory.specs.Tuples.{spelled}
use Rattle.theory.specs.declared.moves.Move.{Move}
use Rattle.checking.proofs.Spelling.{spelled_joins, spelled_stays, string_is}
use Rattle.replies.specs.Lines.{Begins, digits}
use Rattle.replies.proofs.Appending.{digits_append, nothing, onward, renamed, retold, room}
use Rattle.replies.proofs.strings.put_events.Goals as goal
use Rattle.replies.proofs.strings.put_events.Goals.{then-takes_part, else-takes_part}

pub put_byte-count-requires : goal.put_byte-count-requires
put_byte-count-requires c = room _ _ c.loop-step.invariant.written 2 (omega (arith, c.requires, c.loop-step.invariant.bound))

pub loop-step-init : goal.loop-step-init
loop-step-init c = record { written = nothing c.args.out.now; bound = omega arith }

pub loop-step-preserved : goal.loop-step-preserved
loop-step-preserved c =
    let p = setup c.args.problem.now in
    let k = c.args.number in
    let xs = c.args.run.now in
    let i = c.loop-step.step-index in
    let none : Move = record { event = 0; mover = 0 } in
    let was = c.loop-step.invariant in
    elim c.if-takes_part.branch [
      | then-takes_part w ↦
          let joined = sym c.takes_part.ensures ∙ w.if-takes_part.true in
          let more = sym (digits_append (spelled p k (take i xs)) ((get_or xs i none).event ∷ [])) ∙ ap digits (sym (spelled_joins p k xs i none c.loop-step-test.true joined)) in
          record {
            written = renamed w.out-is w.count-is (retold more (onward _ _ was.written w.put_byte-count.ensures));
            bound = omega (arith, w.count-is, w.put_byte-count.ensures.count, was.bound);
          }
      | else-takes_part w ↦
          let same = spelled_stays p k xs i none c.loop-step-test.true (sym c.takes_part.ensures ∙ w.if-takes_part.false) in
          record {
            written = renamed w.out-is w.count-is (retold (ap digits (sym same)) was.written);
            bound = omega (arith, w.count-is, was.bound);
          }
    ]

pub returns-clause-events : goal.returns-clause-events
returns-clause-events c =
    let p = setup c.args.problem.now in
    let k = c.args.number in
    let xs = c.args.run.now in
    retold (ap digits (ap (spelled p k) (take_all c.loop-step.step-index xs c.loop-step-test.false) ∙ sym (string_is p k xs))) c.loop-step.invariant.written
