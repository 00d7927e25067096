use Rattle.theory.proofs.Closure.{hidden_reach_is_closure_lem}
use Rattle.theory.proofs.theorems.hidden_reach_is_closure.Goals as goal

pub returns : goal.returns
returns c = hidden_reach_is_closure_lem
