use Rattle.std.proofs.Common.{◌≡◌, true, false, not, nat_eq, sym, refl, ap, ◌∙◌, eq-eqb, ne_eqb}
use Rattle.pairs.specs.Numbered.{numbered}
use Rattle.sites.proofs.Voting.{vote_no, vote_conjunctive, vote_disjunctive}
use Rattle.sites.proofs.votes.says_yes.Goals as goal

pub returns-else-controls : goal.returns-else-controls
returns-else-controls g c =
    c.if-controls.false ∙ sym (vote_no (numbered c.args.pairs.now) c.args.site c.args.estimate c.args.event (sym c.controls.ensures ∙ c.if-controls.false))

pub returns-in-Conjunctive : goal.returns-in-Conjunctive
returns-in-Conjunctive g c =
    c.some_legal.ensures
    ∙ sym (vote_conjunctive (numbered c.args.pairs.now) c.args.site c.args.estimate c.args.event (sym c.controls.ensures ∙ c.if-controls.true) (sym c.mode.ensures ∙ c.in-Conjunctive.is))

pub returns-then-estimate-ne0 : goal.returns-then-estimate-ne0
returns-then-estimate-ne0 g c =
    sym (vote_disjunctive (numbered c.args.pairs.now) c.args.site c.args.estimate c.args.event false c.some_bad.result (sym c.controls.ensures ∙ c.if-controls.true) (sym c.mode.ensures ∙ c.in-Disjunctive.is) (ne_eqb c.args.estimate 0 c.if-estimate-ne0.true) (sym c.some_bad.ensures))

pub returns-else-estimate-ne0 : goal.returns-else-estimate-ne0
returns-else-estimate-ne0 g c =
    let none : nat_eq c.args.estimate 0 ≡ true = eq-eqb c.args.estimate 0 c.if-estimate-ne0.false in
    ap not none
    ∙ sym (vote_disjunctive (numbered c.args.pairs.now) c.args.site c.args.estimate c.args.event true _ (sym c.controls.ensures ∙ c.if-controls.true) (sym c.mode.ensures ∙ c.in-Disjunctive.is) none refl)
