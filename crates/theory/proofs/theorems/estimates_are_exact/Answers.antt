use Rattle.theory.proofs.Estimates.{estimates_are_exact_lem}
use Rattle.theory.proofs.theorems.estimates_are_exact.Goals as goal

pub returns : goal.returns
returns c = estimates_are_exact_lem
