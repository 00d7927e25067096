use Rattle.std.proofs.Common.{◌≡◌, length, ap, ◌∙◌, arith}
use Rattle.std.proofs.lemmas.Result.{err_from_is_err_and}
use Rattle.control.specs.Arrangements.{meant}
use Rattle.control.specs.Systems.{system}
use Rattle.replies.specs.Decks.{said_plant, said_system}
use Rattle.decks.specs.Said.{says}
use Rattle.run.proofs.Answering.{shown_answered, unchecked_answered, unmade_answered, unread_answered}
use Rattle.run.proofs.Rooms.{plays_room}
use Rattle.run.proofs.running.answer.Goals as goal
use Rattle.run.proofs.running.answer.Goals.{After-new-arrangement}

pub returns-in_err-deck : goal.returns-in_err-deck
returns-in_err-deck c =
    let (x, is, from) = err_from_is_err_and c.from_residual.result c.from_residual.ensures.1 in
    rw (is, from) (unread_answered c.args.text.now c.args.cells.now c.args.trace.now c.args.out.now _ c.in_err-deck.ensures.reads)

pub returns-in_err-problem : goal.returns-in_err-problem
returns-in_err-problem c =
    let (x, is, from) = err_from_is_err_and c.from_residual-in_err-problem.result c.from_residual-in_err-problem.ensures.1 in
    rw (is, from) (unmade_answered c.args.text.now c.args.cells.now c.args.trace.now c.args.out.now (says c.in_ok-deck.deck) _ c.in_ok-deck.ensures.reads c.in_err-problem.ensures)

pub conclude-requires : goal.conclude-requires
conclude-requires c =
    let room = plays_room c.args.text.now (says c.in_ok-deck.deck) c.in_ok-deck.ensures.reads in
    record { long = c.requires; room = omega (arith, c.requires, room, ap length c.as_slice.ensures.value) }

-- what the arrangement means is what the deck says
means : (c : After-new-arrangement) → meant c.new-arrangement.result ≡ said_system (says c.in_ok-deck.deck)
means c =
    let x = says c.in_ok-deck.deck in
    c.new-arrangement.ensures ∙ ap (λ p. system p (said_plant x) x.spec) c.in_ok-problem.ensures.1

pub returns-in_err-count : goal.returns-in_err-count
returns-in_err-count c =
    let (why, is, from) = err_from_is_err_and c.from_residual-in_err-count.result c.from_residual-in_err-count.ensures.1 in
    let (asked, same) = c.in_err-count.ensures in
    rw (is, from) (unchecked_answered c.args.text.now c.args.cells.now c.conclude.new.cells c.args.trace.now c.conclude.new.trace c.args.out.now c.conclude.new.out (says c.in_ok-deck.deck) c.in_ok-deck.ensures.reads c.in_ok-problem.ensures.0 (meant c.new-arrangement.result) (means (goal.at.returns-in_err-count c).After-new-arrangement) c.in_err-count.field-0.0 asked same)

pub returns : goal.returns
returns c =
    shown_answered c.args.text.now c.args.cells.now c.conclude.new.cells c.args.trace.now c.conclude.new.trace c.args.out.now c.conclude.new.out (says c.in_ok-deck.deck) c.in_ok-deck.ensures.reads c.in_ok-problem.ensures.0 (meant c.new-arrangement.result) (means (goal.at.returns c).After-new-arrangement) c.as_slice.result.now c.as_slice.ensures.value c.in_ok-count.count c.in_ok-count.ensures
