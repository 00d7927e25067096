use Rattle.theory.proofs.Legality.{legal_is_possible_lem}
use Rattle.theory.proofs.theorems.legal_is_possible.Goals as goal

pub returns : goal.returns
returns c = legal_is_possible_lem
