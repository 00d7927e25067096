use Rattle.std.proofs.Common.{◌≡◌, ◌≤◌, length, Ok, sym, subst, arith}
use Rattle.std.proofs.lemmas.List.{length-take-le}
use Rattle.control.specs.Arrangements.{meant}
use Rattle.control.proofs.Arrangements.{keeps}
use Rattle.checking.specs.declared.verdict.Verdict.TheVariants.{Clear}
use Rattle.replies.specs.Decks.{most_moves}
use Rattle.run.specs.Runs.{Asked}
use Rattle.run.proofs.Answering.{clear_shown}
use Rattle.run.proofs.Rooms.{front_fits}
use Rattle.run.proofs.showing.conclude.Goals as goal
use Rattle.run.proofs.showing.conclude.Goals.{In-Clash}

-- the run of a clash fits the records that are used, and the trace
fits : (g : _) (c : In-Clash g) → (c.in-Clash.moves ≤ most_moves) × (c.in-Clash.moves ≤ length c.open.new.trace)
fits g c =
    let asked = subst (λ v. Asked (meant c.args.arrangement.now) c.args.cells.now c.open.new.cells c.args.trace.now c.open.new.trace (Ok v)) c.in-Clash.is c.in_ok-open.ensures.asked in
    let (few, within) = front_fits most_moves c.in-Clash.moves c.args.trace.now asked.checked.room in
    (few, omega (arith, within, c.open.auto.trace))

pub slice_bounds-show_clash-end : goal.slice_bounds-show_clash-end
slice_bounds-show_clash-end g c = (fits g (goal.at.slice_bounds-show_clash-end g c).In-Clash).1

pub slice_bounds-show_clash-end-in-Clash : goal.slice_bounds-show_clash-end-in-Clash
slice_bounds-show_clash-end-in-Clash g c =
    sym (length-take-le c.in-Clash.moves c.open.new.trace (fits g (goal.at.slice_bounds-show_clash-end-in-Clash g c).In-Clash).1)

pub show_clash-requires-clause-few : goal.show_clash-requires-clause-few
show_clash-requires-clause-few g c =
    let (few, within) = fits g (goal.at.show_clash-requires-clause-few g c).In-Clash in
    omega (arith, few, length-take-le c.in-Clash.moves c.open.new.trace within)

pub returns-in-Clear : goal.returns-in-Clear
returns-in-Clear g c =
    let a = c.args.arrangement.now in
    let is : c.in_ok-open.field-0 ≡ Clear = c.in-Clear.is in
    clear_shown (meant a) (keeps a) a.problem.now.counts.3 _ _ _ _ _ _ _ _ c.in_ok-open.field-0 _ _ is c.in_ok-open.ensures.asked c.in_ok-open.ensures.after c.answer_plays.ensures
