use Rattle.std.proofs.Common.{◌&&◌, refl, rules, ◌∙◌}
use Rattle.control.specs.Problems.{setup}
use Rattle.sessions.specs.Calls.{said}
use Rattle.sessions.specs.Status.{running}
use Rattle.sites.proofs.Chains.{any_site}
use Rattle.sessions.proofs.session.Open.some_yes.Goals as goal

pub returns : goal.returns
returns c =
    any_site (λ i. (setup c.args.problem.now).controls i c.args.event && said (running c.args.self.now) i c.args.event) c.args.problem.now.sites _ c.any.result _ _ c.any.ensures.ran c.new.ensures.start (c.new.ensures.end ∙ c.sites.ensures) c.new.ensures.exhausted refl (λ x b q k. (search rules, search rules))
