use Rattle.theory.proofs.Variants.{worked_example_lem}
use Rattle.theory.proofs.theorems.worked_example.Goals as goal

pub returns : goal.returns
returns c = worked_example_lem
