use Rattle.std.proofs.Common.{◌≡◌}
use Rattle.plants.specs.Masks.{mask_of}
use Rattle.theory.specs.Estimates.{vote}
use Rattle.pairs.specs.Numbered.{numbered}
use Rattle.sites.proofs.votes.vote.Given as goal

abbrev pub invariant-loop-event : goal.invariant-loop-event
invariant-loop-event g l = l.mask ≡ mask_of l.event (vote (numbered l.pairs) l.site l.estimate)
