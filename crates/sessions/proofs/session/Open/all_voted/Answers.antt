use Rattle.std.proofs.Common.{◌||◌, nat_eq, refl, rules, sym, ap, ◌∙◌, arith, ne_eqb}
use Rattle.sessions.specs.Calls.{has_voted}
use Rattle.sessions.specs.Status.{running}
use Rattle.sites.proofs.Chains.{all_site}
use Rattle.sessions.proofs.session.Open.all_voted.Goals as goal

pub returns : goal.returns
returns c =
    all_site (has_voted (running c.args.self.now)) c.args.problem.now.sites _ c.all.result (λ i. nat_eq i 0 || has_voted (running c.args.self.now) i) _ _ c.all.ensures.ran c.new.ensures.start (c.new.ensures.end ∙ c.sites.ensures) c.new.ensures.exhausted refl
    (λ k some. sym (ap (λ b. b || has_voted (running c.args.self.now) k) (ne_eqb k 0 (λ z. omega arith))))
    (λ x b q k. (search rules, search rules))
