use Rattle.std.proofs.Common.{ap, rules}
use Rattle.sites.proofs.Chains.{any_below}
use Rattle.sites.proofs.votes.some_legal.Goals as goal

pub returns : goal.returns
returns g c =
    any_below _ _ _ c.any.result _ _ c.any.ensures.ran (ap (λ n. record { start = 0; end = n }) c.count.ensures.value) (λ x b q k. (search rules, search rules))
