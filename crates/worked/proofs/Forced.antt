-- The counterexamples of the examples. By the charts only event 2 can have one. Where event 2 clashes, the strings are
-- forced: nothing has happened, site 1 may have missed event 1, and site 2 may have missed event 0. Where it is clear,
-- one of the two sites would have seen the event that makes the difference. Assumes nothing.
use Rattle.std.proofs.Common.{◌≡◌, ℕ, Bool, true, false, cond, ◌&&◌, eqb, List, [], length, sym, refl, ap, ◌∙◌, subst, ⊎_elim, arith}
use Rattle.std.proofs.lemmas.Bool.{and_parts, eqb-true, false≢true}
use Rattle.plants.specs.Machine.{Machine}
use Rattle.plants.specs.Masks.{bit}
use Rattle.plants.specs.Ranges.{total}
use Rattle.control.specs.Systems.{System, system, pair_step}
use Rattle.control.specs.Strings.{Legal, BadAfter, sight}
use Rattle.theory.specs.Counterexamples.{Controller, Conflict, Refutes, Counterexample, moves, unseen}
use Rattle.theory.specs.Example.{four_states, two_sites, worked, pair, missed}
use Rattle.theory.proofs.Worked.{by_controller}
use Rattle.theory.proofs.Variants.{conjunctive}
use Rattle.worked.specs.Cases.{early, uncontrolled}
use Rattle.worked.proofs.Charts.{Chart, Nothing, OneSeen, worked_chart, early_chart}

-- some strings are a counterexample for e, for no other event there is one, and each has k moves
pub record Clashing (w : System) (e k : ℕ) : Type 0 where
  pub event : (d : ℕ) → Counterexample w d → d ≡ e
  pub some : Counterexample w e
  pub long : (s : List ℕ) (t : ℕ → List ℕ) → Refutes w e s t → moves w e s t ≡ k

-- A counterexample for a conjunctive event has a bad step on it, which by the chart is on event 2; so where no other event
-- is disjunctive, no other has a counterexample.
only_two : (w : System) (B L : List ℕ → Type 0) → Chart w B L → ((e : ℕ) → w.setup.disjunctive e ≡ true → e ≡ 2) → (e : ℕ) → Counterexample w e → e ≡ 2
only_two w B L chart kind e (s, t, h) = go (w.setup.disjunctive e) refl h.conflict
  where
    go : (b : Bool) → w.setup.disjunctive e ≡ b → Conflict w e b s t → e ≡ 2
    go false is (bad, legal) = (chart.bad s e bad).0
    go true is other = kind e is

-- only event 2 is disjunctive
kind_two : (b : Bool) (e : ℕ) → (b && eqb e 2) ≡ true → e ≡ 2
kind_two b e is = eqb-true e 2 (and_parts b (eqb e 2) is).1

-- after one event, a site that saw nothing missed the event of the other
missed_one : (b : Bool) (u : List ℕ) → OneSeen u → sight (two_sites b) 1 u ≡ [] → u ≡ missed 1
missed_one b u one none =
    ⊎_elim (λ is. let seen = ap (sight (two_sites b) 1) is in let z : ◌≡◌ {A = ℕ} 0 1 = cc in absurd (omega arith)) (λ is. is) one

missed_two : (b : Bool) (u : List ℕ) → OneSeen u → sight (two_sites b) 2 u ≡ [] → u ≡ missed 2
missed_two b u one none =
    ⊎_elim (λ is. is) (λ is. let seen = ap (sight (two_sites b) 2) is in let z : ◌≡◌ {A = ℕ} 0 1 = cc in absurd (omega arith)) one

-- what the conflict asks of the strings
asked : (w : System) (B L : List ℕ → Type 0) → Chart w B L → (b : Bool) (s : List ℕ) (t : ℕ → List ℕ) → Conflict w 2 b s t → cond b L B s × ((i : ℕ) → Controller w 2 i → cond b B L (t i))
asked w B L chart false s t (bad, legal) = ((chart.bad s 2 bad).1, λ i c. chart.legal (t i) (legal i c))
asked w B L chart true s t (legal, bad) = (chart.legal s legal, λ i c. (chart.bad (t i) 2 (bad i c)).1)

-- every counterexample for event 2 has these strings
abbrev pub Forced : System → Type 0
Forced w = (s : List ℕ) (t : ℕ → List ℕ) → Refutes w 2 s t → (s ≡ []) × (t 1 ≡ missed 1) × (t 2 ≡ missed 2)

module _ (plant spec : Machine) where
  abbrev with_sites : Bool → System
  with_sites b = system (two_sites b) plant spec

  -- event 2 clashes: it changes after one event, from bad to legal if it is conjunctive, and back if it is disjunctive
  abbrev Clash : Bool → Type 0
  Clash b = Chart (with_sites b) (cond b OneSeen Nothing) (cond b Nothing OneSeen)

  clash_asks : (b : Bool) → Clash b → (s : List ℕ) (t : ℕ → List ℕ) → Refutes (with_sites b) 2 s t → Nothing s × ((i : ℕ) → Controller (with_sites b) 2 i → OneSeen (t i))
  clash_asks false chart s t h = asked (with_sites false) Nothing OneSeen chart false s t h.conflict
  clash_asks true chart s t h = asked (with_sites true) OneSeen Nothing chart true s t h.conflict

  -- the strings of a clash
  forced : (b : Bool) → Clash b → Forced (with_sites b)
  forced b chart s t h =
      let (none, one) = clash_asks b chart s t h in
      let blank = λ (i : ℕ) (c : Controller (with_sites b) 2 i). h.alike i c ∙ ap (sight (two_sites b) i) none in
      (none, missed_one b (t 1) (one 1 refl) (blank 1 refl), missed_two b (t 2) (one 2 refl) (blank 2 refl))

  clashing : (b : Bool) → Clash b → Counterexample (with_sites b) 2 → Clashing (with_sites b) 2 2
  unfolding total
  clashing b chart some = record {
    event = only_two (with_sites b) _ _ chart (kind_two b);
    some = some;
    long = λ s t h.
        let (none, one, two) = forced b chart s t h in
        omega (arith, ap length none, ap (unseen (two_sites b) 1) one, ap (unseen (two_sites b) 2) two);
  }

pub worked_forced : Forced (worked false)
worked_forced = forced four_states (worked false).spec false (worked_chart (two_sites false))

pub early_forced : Forced (early true)
early_forced = forced four_states (early true).spec true (early_chart true)

pub worked_clash : Clashing (worked false) 2 2
worked_clash = clashing four_states (worked false).spec false (worked_chart (two_sites false)) ([], missed, conjunctive.counterexample)

-- conjunctive: event 2 is bad only after an event that one of the sites has seen
pub early_clear : (e : ℕ) → Counterexample (early false) e → ⊥
early_clear e (s, t, h) =
    let two = only_two (early false) OneSeen Nothing (early_chart false) (kind_two false) e (s, t, h) in
    let here = subst (λ d. Refutes (early false) d s t) two h in
    let (one, none) = asked (early false) OneSeen Nothing (early_chart false) false s t here.conflict in
    let blank = λ (i : ℕ) (c : Controller (early false) 2 i). sym (here.alike i c) ∙ ap (sight (two_sites false) i) (none i c) in
    let z : ◌≡◌ {A = ℕ} 0 1 = cc (missed_one false s one (blank 1 refl), missed_two false s one (blank 2 refl)) in
    omega arith

-- disjunctive: event 2 is legal at first, and each site may think that it is not
early_counterexample : Refutes (early true) 2 [] missed
unfolding pair_step bit
early_counterexample = record {
  s_legal = (pair 0 0, refl);
  t_legal = by_controller true (λ i. Legal (early true) (missed i)) (pair 2 1, (pair 0 0, refl, refl)) (pair 1 1, (pair 0 0, refl, refl));
  alike = by_controller true (λ i. sight (two_sites true) i (missed i) ≡ []) refl refl;
  conflict = (
    (pair 3 0, (pair 0 0, refl, refl)),
    by_controller true (λ i. BadAfter (early true) (missed i) 2) (pair 2 1, (pair 0 0, refl, refl), refl) (pair 1 1, (pair 0 0, refl, refl), refl),
  );
}

pub early_clash : Clashing (early true) 2 2
early_clash = clashing four_states (early true).spec true (early_chart true) ([], missed, early_counterexample)

-- with no controllers the empty string is a counterexample
uncontrolled_counterexample : Refutes uncontrolled 2 [] (λ i. [])
unfolding pair_step bit
uncontrolled_counterexample = record {
  s_legal = (pair 0 0, refl);
  t_legal = λ i c. absurd (false≢true c);
  alike = λ i c. refl;
  conflict = ((pair 0 0, refl, refl), λ i c. absurd (false≢true c));
}

pub uncontrolled_clash : Clashing uncontrolled 2 0
unfolding total
uncontrolled_clash = record {
  event = only_two uncontrolled _ _ (worked_chart uncontrolled.setup) (λ e is. absurd (false≢true is));
  some = ([], (λ i. []), uncontrolled_counterexample);
  long = λ s t h. ap (λ u. moves uncontrolled 2 u t) ((worked_chart uncontrolled.setup).bad s 2 h.conflict.0).1;
}
