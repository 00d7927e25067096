use Rattle.theory.proofs.Fusion.{fusion_in_words_lem}
use Rattle.theory.proofs.theorems.fusion_in_words.Goals as goal

pub returns : goal.returns
returns c = fusion_in_words_lem
