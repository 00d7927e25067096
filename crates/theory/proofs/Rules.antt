-- Where an event has a counterexample, no local rules generate exactly the legal strings. The rules would have to allow
-- the event where it is legal, and since a controller says the same after strings of equal sights, they then allow it
-- where it is bad. Assumes nothing.
use Rattle.std.proofs.Common.{◌≡◌, ℕ, Bool, true, false, List, ◌∷◌, sym, refl, ap, ◌∙◌}
use Rattle.control.specs.Systems.{System, Keeps}
use Rattle.control.specs.Strings.{Legal, BadAfter, sight}
use Rattle.control.proofs.Strings.{bad_possible, bad_not_legal}
use Rattle.theory.specs.Rules.{Rules, fusion, Generates, Generates.added, Exact}
use Rattle.theory.specs.Counterexamples.{Controller, Conflict, Refutes}
use Rattle.theory.specs.Theorems.{CounterexampleLeavesNoRules}
use Rattle.theory.proofs.Fusion.{conjunctive_from, conjunctive_each, disjunctive_from, disjunctive_some}

-- what rules say of e after s, site by site
abbrev pub after_string : System → Rules → ℕ → List ℕ → ℕ → Bool
after_string w r e s i = r i (sight w.setup i s) e

pub generated_fused : (w : System) (r : Rules) (e : ℕ) (s : List ℕ) → Generates w r (e ∷ s) → fusion w.setup e (after_string w r e s) ≡ true
generated_fused w r e s (added front possible fused) = fused

module _ (w : System) (keeps : Keeps w) (e : ℕ) (r : Rules) (exact : Exact w r) where
  -- rules that allow e after s make it a legal step, so it is no bad one
  not_allowed : (s : List ℕ) → Legal w s → BadAfter w s e → fusion w.setup e (after_string w r e s) ≡ true → ⊥
  not_allowed s legal bad fused = bad_not_legal w e s bad (exact.legal (e ∷ s) (added (exact.whole s legal) (bad_possible w e s bad) fused))

  allowed : (s : List ℕ) → Legal w (e ∷ s) → fusion w.setup e (after_string w r e s) ≡ true
  allowed s legal = generated_fused w r e s (exact.whole (e ∷ s) legal)

  -- a controller says the same after s and after t i
  same_said : (s : List ℕ) (t : ℕ → List ℕ) → Refutes w e s t → (i : ℕ) → Controller w e i → after_string w r e (t i) i ≡ after_string w r e s i
  same_said s t h i c = ap (λ σ. r i σ e) (h.alike i c)

  refuted : (s : List ℕ) (t : ℕ → List ℕ) → Refutes w e s t → (b : Bool) → w.setup.disjunctive e ≡ b → Conflict w e b s t → ⊥
  refuted s t h false kind (bad, legal) =
      not_allowed s h.s_legal bad
      (conjunctive_from w.setup keeps.setup e _ kind
      (λ i c. sym (same_said s t h i c) ∙ conjunctive_each w.setup keeps.setup e (after_string w r e (t i)) kind (allowed (t i) (legal i c)) i c))
  refuted s t h true kind (legal, bad) =
      let (i, c, said) = disjunctive_some w.setup keeps.setup e (after_string w r e s) kind (allowed s legal) in
      not_allowed (t i) (h.t_legal i c) (bad i c) (disjunctive_from w.setup keeps.setup e _ kind i c (same_said s t h i c ∙ said))

pub counterexample_leaves_no_rules_lem : CounterexampleLeavesNoRules
counterexample_leaves_no_rules_lem w keeps e (s, t, h) (r, exact) = refuted w keeps e r exact s t h (w.setup.disjunctive e) refl h.conflict
