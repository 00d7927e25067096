use Rattle.theory.proofs.Rules.{counterexample_leaves_no_rules_lem}
use Rattle.theory.proofs.theorems.counterexample_leaves_no_rules.Goals as goal

pub returns : goal.returns
returns c = counterexample_leaves_no_rules_lem
