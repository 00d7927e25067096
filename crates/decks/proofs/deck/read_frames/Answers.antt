use Rattle.std.proofs.Common.{◌<◌, length, sym, subst, arith, true-eqb, false-eqb}
use Rattle.std.proofs.lemmas.Result.{err_from_is_err_and}
use Rattle.decks.specs.Order.{Placed}
use Rattle.decks.specs.Reader.{state}
use Rattle.decks.proofs.Shapes.{sound_placed}
use Rattle.decks.proofs.Steps.{stopped, taken_less, taken_more, whole}
use Rattle.decks.proofs.deck.read_frames.Goals as goal

pub take-requires : goal.take-requires
take-requires c =
    let so_far = c.loop-rest.invariant in
    subst Placed (sym so_far.now) (sound_placed so_far.frames so_far.sound)

pub returns-in_err-rest : goal.returns-in_err-rest
returns-in_err-rest c =
    let p = err_from_is_err_and c.from_residual.result c.from_residual.ensures.1 in
    let some : 0 < length c.loop-rest.rest.now = omega (arith, false-eqb _ 0 c.loop-rest-test.ensures) in
    rw (p.1, p.2) (stopped _ _ _ _ (state c.take.new.self) _ c.requires c.loop-rest.invariant some c.in_err-rest.ensures)

pub loop-rest-smaller : goal.loop-rest-smaller
loop-rest-smaller c = taken_less _ _ _ _ _ c.in_ok-rest.ensures

pub loop-rest-preserved : goal.loop-rest-preserved
loop-rest-preserved c = taken_more _ _ _ _ _ _ c.loop-rest.invariant c.in_ok-rest.ensures

pub returns : goal.returns
returns c =
    let told = c.in_ok-finish.ensures in
    whole _ _ _ _ c.in_ok-finish.field-0 c.requires c.loop-rest.invariant (true-eqb _ 0 c.loop-rest-test.ensures) told.1 told.0
