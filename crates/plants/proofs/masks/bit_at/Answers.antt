use Rattle.std.proofs.Common.{refl}
use Rattle.plants.specs.Masks.{bit}
use Rattle.plants.proofs.masks.bit_at.Goals as goal

pub returns : goal.returns
unfolding bit
returns c = refl
