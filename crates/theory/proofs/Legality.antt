-- The small laws of legal strings, as one statement. Each stands with the strings, in crate control. Assumes nothing.
use Rattle.control.proofs.Strings.{legal_possible, legal_front, leads_once}
use Rattle.theory.specs.Theorems.{LegalIsPossible}

pub legal_is_possible_lem : LegalIsPossible
legal_is_possible_lem w s = record { possible = legal_possible w s; front = λ e. legal_front w e s; once = leads_once w s }
