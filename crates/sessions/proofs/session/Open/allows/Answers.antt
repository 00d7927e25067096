use Rattle.std.proofs.Common.{sym, ◌∙◌}
use Rattle.std.proofs.lemmas.Bool.{cond-true, cond-false}
use Rattle.control.specs.Problems.{setup}
use Rattle.theory.specs.Rules.{fusion}
use Rattle.sites.proofs.Voting.{conjunctive_kind, disjunctive_kind}
use Rattle.sessions.proofs.session.Open.allows.Goals as goal

pub returns-in-Disjunctive : goal.returns-in-Disjunctive
unfolding fusion
returns-in-Disjunctive c =
    c.some_yes.ensures ∙ sym (cond-true ((setup c.args.problem.now).disjunctive c.args.event) _ _ (disjunctive_kind _ (sym c.mode.ensures ∙ c.in-Disjunctive.is)))

pub returns-in-Conjunctive : goal.returns-in-Conjunctive
unfolding fusion
returns-in-Conjunctive c =
    c.all_yes.ensures ∙ sym (cond-false ((setup c.args.problem.now).disjunctive c.args.event) _ _ (conjunctive_kind _ (sym c.mode.ensures ∙ c.in-Conjunctive.is)))
