use Rattle.std.proofs.Common.{◌≤◌, arith}
use Rattle.std.proofs.lemmas.Grind.{common_steps}
use Rattle.frames.specs.Lines.{run}
use Rattle.frames.proofs.Found.{drop_past}
use Rattle.frames.proofs.lines.line.Goals as goal

pub returns-in-Some : goal.returns-in-Some
returns-in-Some c =
    let low : 2 ≤ run c.args.deck.now = omega arith in
    let high : run c.args.deck.now ≤ 64 = omega arith in
    let h = c.in-Some.ensures.cases.0 in
    grind (arith, common_steps, c.split_at.ensures.by_index.0, h, drop_past c.split_at.result.0.now 10 c.in-Some.rest.now)
