-- One turn of an audit. The pair in hand is the one to which the list leads so far; a legal step leads the list one event
-- further, and any other stops it: by determinism no other way through the plant or the pairs is left.
-- Assumes nothing.
use Rattle.std.proofs.Common.{◌≡◌, ℕ, suc, ◌<◌, Bool, true, false, cond, leb, Result, Ok, Err, is_ok, List, [], ◌∷◌, reverse, length, get_or, take, sym, refl, ap, ◌∙◌, subst, add-one, arith, leb-true}
use mathlib.Core.Path.{subst⁻¹}
use mathlib.Core.List.{reverse-append}
use Rattle.std.proofs.lemmas.List.{take_more}
use Rattle.control.specs.Audits.{followed, front, Halts, legal_or_stop}
use Rattle.control.specs.Strings.{Possible, Leads, Legal as IsLegal, BadAfter}
use Rattle.control.specs.Systems.{System, outcome, pair_step}
use Rattle.control.specs.declared.recorded.Stop.{Stop}
use Rattle.control.specs.declared.recorded.Stop.TheVariants.{NoEvent, NoStep as NoStepAt, Bad as BadAt}
use Rattle.control.specs.declared.pair.Pair.{Pair}
use Rattle.control.specs.declared.pair.PairStep.{PairStep}
use Rattle.control.specs.declared.pair.PairStep.TheVariants.{NoStep, Bad, Legal}
use Rattle.control.proofs.Strings.{plant_step, follows_once, leads_follows, bad_possible, bad_not_legal, opened_step}
use borrow.Author.Tests.{both_ways}
use Rattle.std.proofs.lemmas.Bool.{leb-false}

-- the front of one event more
pub front_more : (es : List ℕ) (k : ℕ) → k < length es → front es (suc k) ≡ get_or es k 0 ∷ front es k
front_more es k h = ap (λ n. reverse (take n es)) (sym (add-one k)) ∙ ap reverse (take_more es k 0 h) ∙ reverse-append (take k es) (get_or es k 0 ∷ [])

module _ (w : System) (es : List ℕ) (k : ℕ) (x : Pair) (within : k < length es) (so_far : Leads w (front es k) x) where
  -- a legal step leads the list one event further
  pub goes_on : (y : Pair) → pair_step w x (get_or es k 0) ≡ Legal y → Leads w (front es (suc k)) y
  goes_on y step = subst⁻¹ (λ s. Leads w s y) (front_more es k within) (x, so_far, step)

  -- no step: whatever the plant did so far, it is in the state of the pair
  pub stuck : get_or es k 0 < w.setup.events → pair_step w x (get_or es k 0) ≡ NoStep → Halts w es k NoStepAt
  stuck event none = (event, λ possible. no (rw (front_more es k within) at possible))
    where
      no : Possible w (get_or es k 0 ∷ front es k) → ⊥
      no (q, (p, follows, below, step)) =
          let same = follows_once w (front es k) p x.plant follows (leads_follows w (front es k) x so_far) in
          plant_step w x (get_or es k 0) q below (ap (λ v. w.plant.step v (get_or es k 0)) (sym same) ∙ step) none

  pub bad : pair_step w x (get_or es k 0) ≡ Bad → Halts w es k BadAt
  bad step =
      let after : BadAfter w (front es k) (get_or es k 0) = (x, so_far, step) in
      let more = front_more es k within in
      (subst⁻¹ (Possible w) more (bad_possible w _ _ after), λ legal. bad_not_legal w _ _ after (subst (IsLegal w) more legal))

  abbrev told_stop : Result Pair Stop → Stop
  told_stop (Ok y) = NoEvent
  told_stop (Err how) = how

  abbrev told_pair : Result Pair Stop → Pair
  told_pair (Ok y) = y
  told_pair (Err how) = x

  -- an event that does not follow stops the list, and one that does leads it further
  pub halts : (how : Stop) → followed w x (get_or es k 0) ≡ Err how → Halts w es k how
  halts how h = go (leb (suc (get_or es k 0)) w.setup.events) (outcome w x (get_or es k 0)) refl (opened_step _ _ _) h
    where
      go : (b : Bool) (o : PairStep Pair) → leb (suc (get_or es k 0)) w.setup.events ≡ b → pair_step w x (get_or es k 0) ≡ o → cond b (legal_or_stop o) (Err NoEvent) ≡ Err how → Halts w es k how
      go false o past is h = subst (Halts w es k) (ap told_stop h) (grind (arith, leb-false _ _ past))
      go true NoStep event is h = subst (Halts w es k) (ap told_stop h) (stuck (leb-true _ _ event) is)
      go true Bad event is h = subst (Halts w es k) (ap told_stop h) (bad is)
      go true (Legal y) event is h = absurd (both_ways true (ap is_ok h) refl)

  pub leads_on : (y : Pair) → followed w x (get_or es k 0) ≡ Ok y → Leads w (front es (suc k)) y
  leads_on y h = go (leb (suc (get_or es k 0)) w.setup.events) (outcome w x (get_or es k 0)) (opened_step _ _ _) h
    where
      go : (b : Bool) (o : PairStep Pair) → pair_step w x (get_or es k 0) ≡ o → cond b (legal_or_stop o) (Err NoEvent) ≡ Ok y → Leads w (front es (suc k)) y
      go false o is h = absurd (both_ways true (ap is_ok (sym h)) refl)
      go true NoStep is h = absurd (both_ways true (ap is_ok (sym h)) refl)
      go true Bad is h = absurd (both_ways true (ap is_ok (sym h)) refl)
      go true (Legal z) is h = goes_on y (is ∙ ap Legal (ap told_pair h))
