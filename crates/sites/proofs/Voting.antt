-- A site's vote, and the kind of an event by its mode. Assumes nothing.
use Rattle.std.proofs.Common.{◌≡◌, ℕ, Bool, true, false, cond, not, ◌&&◌, nat_eq, ap, ◌∙◌}
use Rattle.std.proofs.lemmas.Bool.{and_left, cond-true, cond-false}
use Rattle.control.specs.Problems.{mode_of}
use Rattle.control.specs.Systems.{System}
use Rattle.control.specs.declared.problem.Mode.TheVariants.{Conjunctive, Disjunctive}
use Rattle.theory.specs.Estimates.{pairs, is_bad, is_legal, vote}
use Rattle.sites.specs.Sites.{some_below}

pub conjunctive_kind : (d : Bool) → mode_of d ≡ Conjunctive → d ≡ false
conjunctive_kind true is = cc
conjunctive_kind false is = cc

pub disjunctive_kind : (d : Bool) → mode_of d ≡ Disjunctive → d ≡ true
disjunctive_kind true is = cc
disjunctive_kind false is = cc

module _ (w : System) (i m e : ℕ) where
  pub vote_no : w.setup.controls i e ≡ false → vote w i m e ≡ false
  unfolding vote
  vote_no other = and_left (w.setup.controls i e) _ other

  by_kind : w.setup.controls i e ≡ true → vote w i m e ≡ cond (w.setup.disjunctive e) (not (nat_eq m 0) && not (some_below w (pairs w) m e is_bad)) (some_below w (pairs w) m e is_legal)
  unfolding vote
  by_kind own = ap (λ c. c && cond (w.setup.disjunctive e) (not (nat_eq m 0) && not (some_below w (pairs w) m e is_bad)) (some_below w (pairs w) m e is_legal)) own

  pub vote_conjunctive : w.setup.controls i e ≡ true → mode_of (w.setup.disjunctive e) ≡ Conjunctive → vote w i m e ≡ some_below w (pairs w) m e is_legal
  vote_conjunctive own kind = by_kind own ∙ cond-false (w.setup.disjunctive e) _ _ (conjunctive_kind (w.setup.disjunctive e) kind)

  pub vote_disjunctive : (empty bad : Bool) → w.setup.controls i e ≡ true → mode_of (w.setup.disjunctive e) ≡ Disjunctive → nat_eq m 0 ≡ empty → some_below w (pairs w) m e is_bad ≡ bad → vote w i m e ≡ (not empty && not bad)
  vote_disjunctive empty bad own kind none some =
      by_kind own ∙ cond-true (w.setup.disjunctive e) _ _ (disjunctive_kind (w.setup.disjunctive e) kind) ∙ ap (λ b. not b && not (some_below w (pairs w) m e is_bad)) none ∙ ap (λ b. not empty && not b) some
