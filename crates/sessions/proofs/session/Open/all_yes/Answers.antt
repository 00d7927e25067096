use Rattle.std.proofs.Common.{not, ◌||◌, refl, rules, ◌∙◌}
use Rattle.control.specs.Problems.{setup}
use Rattle.sessions.specs.Calls.{said}
use Rattle.sessions.specs.Status.{running}
use Rattle.sites.proofs.Chains.{all_site}
use Rattle.sessions.proofs.session.Open.all_yes.Goals as goal

pub returns : goal.returns
returns c =
    all_site (λ i. not ((setup c.args.problem.now).controls i c.args.event) || said (running c.args.self.now) i c.args.event) c.args.problem.now.sites _ c.all.result _ _ _ c.all.ensures.ran c.new.ensures.start (c.new.ensures.end ∙ c.sites.ensures) c.new.ensures.exhausted refl (λ k some. refl) (λ x b q k. (search rules, search rules))
