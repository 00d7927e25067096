use Rattle.std.proofs.Common.{◌++◌, drop, take, sym, subst}
use Rattle.replies.specs.Decks.{most_moves}
use Rattle.control.specs.Arrangements.{meant}
use Rattle.checking.specs.Answers.{Checked}
use Rattle.run.proofs.Fronts.{front, lent, past}
use Rattle.run.proofs.showing.open.Goals as goal

pub returns-clause-asked : goal.returns-clause-asked
returns-clause-asked g c =
    let w = meant c.args.arrangement.now in
    let k = c.min-used.result in
    let xs = c.args.trace.now in
    let ys = c.open.new.trace in
    let used = c.min-used.ensures in
    let long = c.open.auto.trace in
    record {
      checked =
          subst (λ t. Checked w c.args.cells.now c.open.new.cells t (take most_moves (ys ++ drop k xs)) c.open.result) (lent most_moves k xs ys used long)
          (subst (λ t. Checked w c.args.cells.now c.open.new.cells (take k xs) t c.open.result) (sym (front most_moves k xs ys used long)) c.open.ensures.checked);
      past = past most_moves k xs ys used long;
    }
