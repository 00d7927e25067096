use Rattle.std.proofs.Common.{◌≡◌}
use Rattle.plants.specs.Masks.{mask_of}
use Rattle.control.specs.Problems.{setup}
use Rattle.control.proofs.problem.Problem.controllers.Given as goal

abbrev pub invariant-loop-site : goal.invariant-loop-site
invariant-loop-site l = l.mask ≡ mask_of l.site (λ i. (setup l.self).controls i l.event)
