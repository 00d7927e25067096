use Rattle.theory.proofs.Interleaving.{runs_and_counterexamples_lem}
use Rattle.theory.proofs.theorems.runs_and_counterexamples.Goals as goal

pub returns : goal.returns
returns c = runs_and_counterexamples_lem
