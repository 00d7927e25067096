use Rattle.theory.proofs.Votes.{votes_generate_legal_lem}
use Rattle.theory.proofs.theorems.votes_generate_legal.Goals as goal

pub returns : goal.returns
returns c = votes_generate_legal_lem
