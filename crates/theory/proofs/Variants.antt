-- The worked example by the kind of event 2. Conjunctive, it has a counterexample, a run that wins and votes that go
-- wrong. Disjunctive, it has no counterexample: event 2 is bad only at the start, and a string after which it is legal
-- has shown event 0 or event 1 to its site. Assumes nothing.
use Rattle.std.proofs.Common.{◌≡◌, ℕ, zero, suc, ◌<◌, Bool, true, false, cond, eqb, ◌⊎◌, List, [], ◌∷◌, None, sym, refl, ap, ◌∙◌, subst, inl, inr, ⊎_elim, arith}
use Rattle.std.proofs.lemmas.Bool.{false≢true, true≢false, both_ways, cases_Bool, cond-true, eqb-true, eq-eqb}
use Rattle.plants.specs.Ranges.{any, all, total}
use Rattle.plants.specs.Masks.{bit, mask_of}
use Rattle.control.specs.Systems.{obeys, pair_step}
use Rattle.control.specs.Strings.{Leads, Legal, BadAfter, sight}
use Rattle.control.specs.declared.pair.Pair.{Pair}
use Rattle.control.specs.declared.pair.PairStep.TheVariants.{Bad, Legal as To}
use Rattle.control.proofs.Strings.{legal_step, bad_step, legal_not_bad, legal_front, bad_not_legal, sight_seen, sight_unseen}
use Rattle.theory.specs.Rules.{fusion, Generates.nothing, Generates.added, Exact}
use Rattle.theory.specs.Counterexamples.{Controller, Conflict, Refutes, Counterexample}
use Rattle.theory.specs.Tuples.{Tuple, joins, Goes, Reaches, Wins}
use Rattle.theory.specs.Estimates.{columns, pairs, number, pair_of, after, grown, again, hidden, first_estimate, told, vote, votes}
use Rattle.theory.specs.Example.{listed, plant_rows, spec_rows, two_sites, worked, pair, missed, move, Conjunctive, Disjunctive, detour, Detour, WorkedExample}
use Rattle.theory.proofs.Rules.{counterexample_leaves_no_rules_lem}
use Rattle.theory.specs.declared.moves.Move.{Move}
use Rattle.theory.proofs.Votes.{votes_generate_legal_lem}
use Rattle.theory.proofs.Worked.{listed_each, by_controller, by_component, anyhow, unknown}

counterexample : Refutes (worked false) 2 [] missed
unfolding pair_step bit
counterexample = record {
  s_legal = (pair 0 0, refl);
  t_legal = by_controller false (λ i. Legal (worked false) (missed i)) (pair 2 1, (pair 0 0, refl, refl)) (pair 1 1, (pair 0 0, refl, refl));
  alike = by_controller false (λ i. sight (two_sites false) i (missed i) ≡ []) refl refl;
  conflict = (
    (pair 0 0, refl, refl),
    by_controller false (λ i. Legal (worked false) (2 ∷ missed i)) (pair 3 1, (pair 2 1, (pair 0 0, refl, refl), refl)) (pair 3 1, (pair 1 1, (pair 0 0, refl, refl), refl)),
  );
}

-- the tuples of the run: at the start, when site 1 has missed event 1, and when site 2 has missed event 0 too
abbrev start : Tuple
start k = pair 0 0

abbrev halfway : Tuple
halfway k = cond (eqb k 1) (pair 2 1) (pair 0 0)

abbrev end : Tuple
end k = cond (eqb k 1) (pair 2 1) (cond (eqb k 2) (pair 1 1) (pair 0 0))

-- what a move asks of component k
abbrev Steps : Bool → Tuple → Move → Tuple → ℕ → Type 0
Steps b y m x k = joins (two_sites b) k m ≡ true → pair_step (worked b) (y k) m.event ≡ To (x k)

abbrev Stays : Bool → Tuple → Move → Tuple → ℕ → Type 0
Stays b y m x k = joins (two_sites b) k m ≡ false → x k ≡ y k

first_move : Goes (worked false) 2 start (move 1 1) halfway
unfolding pair_step bit
first_move = record {
  mover = inr (refl, refl);
  steps = by_component false (Steps false start (move 1 1) halfway) (λ h. absurd (false≢true h)) (λ h. refl) (λ h. absurd (false≢true h));
  stays = by_component false (Stays false start (move 1 1) halfway) (λ h. refl) (λ h. absurd (true≢false h)) (λ h. refl);
}

second_move : Goes (worked false) 2 halfway (move 0 2) end
unfolding pair_step bit
second_move = record {
  mover = inr (refl, refl);
  steps = by_component false (Steps false halfway (move 0 2) end) (λ h. absurd (false≢true h)) (λ h. absurd (false≢true h)) (λ h. refl);
  stays = by_component false (Stays false halfway (move 0 2) end) (λ h. refl) (λ h. refl) (λ h. absurd (true≢false h));
}

run : Wins (worked false) 2 (move 0 2 ∷ move 1 1 ∷ [])
unfolding pair_step bit
run = (
  end,
  (halfway, (start, (λ k c. refl), first_move), second_move),
  (refl, by_controller false (λ i. (y : Pair) × (pair_step (worked false) (end i) 2 ≡ To y)) (pair 3 1, refl) (pair 3 1, refl)),
)

pub conjunctive : Conjunctive
unfolding any all total mask_of bit pair_step columns pairs number pair_of after grown again hidden first_estimate told vote fusion
conjunctive = record {
  uncontrollable = refl;
  one_of_two = refl;
  counterexample = counterexample;
  two_moves = refl;
  run = run;
  spells_s = refl;
  spells_one = refl;
  spells_two = refl;
  votes_one = refl;
  votes_two = refl;
  misled = added nothing (anyhow false).possible refl;
  not_kept = counterexample_leaves_no_rules_lem (worked false) (anyhow false).keeps 2 ([], missed, counterexample);
}

-- component 2 does not see event 0, so it stays when 0 moves
abbrev after_zero : Tuple
after_zero k = cond (eqb k 2) (pair 0 0) (pair 1 1)

along : Reaches (worked true) 2 (move 0 0 ∷ []) after_zero
unfolding pair_step bit
along = (
  start,
  (λ k c. refl),
  record {
    mover = inl refl;
    steps = by_component true (Steps true start (move 0 0) after_zero) (λ h. refl) (λ h. refl) (λ h. absurd (false≢true h));
    stays = by_component true (Stays true start (move 0 0) after_zero) (λ h. absurd (true≢false h)) (λ h. absurd (true≢false h)) (λ h. refl);
  },
)

-- some site has seen something of s
abbrev Shows : List ℕ → Type 0
Shows s = sight (two_sites true) 1 s ≡ [] → sight (two_sites true) 2 s ≡ [] → ⊥

nothing_before : (i e : ℕ) (s : List ℕ) → sight (two_sites true) i (e ∷ s) ≡ [] → sight (two_sites true) i s ≡ []
nothing_before i e s none =
    ⊎_elim (λ sees. let seen = sight_seen (two_sites true) i e s sees in let z : ◌≡◌ {A = ℕ} 0 1 = cc in absurd (omega arith))
    (λ blind. sym (sight_unseen (two_sites true) i e s blind) ∙ none)
    (cases_Bool ((two_sites true).sees i e))

-- a first event is seen by a site
shows_first : (e : ℕ) (s : List ℕ) → e < 2 → Shows (e ∷ s)
shows_first zero s h one two = let z : ◌≡◌ {A = ℕ} 0 1 = cc in omega arith
shows_first (suc zero) s h one two = let z : ◌≡◌ {A = ℕ} 0 1 = cc in omega arith
shows_first (suc (suc e)) s h one two = omega arith

-- a legal string is empty, or has left the start and shown something
abbrev Place : List ℕ → Pair → Type 0
Place s x = ((s ≡ []) × (x ≡ pair 0 0)) ⊎ ((0 < x.plant) × (x.spec ≡ 1) × Shows s)

-- a legal step leads away from the start and to state 1 of the specification; from its state 0 only on the events 0 and 1
legal_leaves : (y : Pair) (e : ℕ) (x : Pair) → pair_step (worked true) y e ≡ To x → (0 < x.plant) × (x.spec ≡ 1) × (y.spec ≡ 0 → e < 2)
legal_leaves y e x to =
    let (event, steps, obeyed) = legal_step (worked true) y e x to in
    let known = (anyhow true).keeps.plant.on_known y.plant e x.plant steps in
    let ruled = sym (cond-true (bit 7 e) (listed spec_rows y.spec e) _ known) ∙ obeyed in (
      listed_each (λ q d r. 0 < r) plant_rows (omega arith) y.plant e x.plant steps,
      listed_each (λ q d r. r ≡ 1) spec_rows (omega arith) y.spec e x.spec ruled,
      listed_each (λ q d r. q ≡ 0 → d < 2) spec_rows (omega arith) y.spec e x.spec ruled,
    )

place : (s : List ℕ) (x : Pair) → Leads (worked true) s x → Place s x
place [] x h = inl (refl, h)
place (e ∷ s) x (y, h, to) =
    let (left, one, early) = legal_leaves y e x to in
    inr (
      left,
      one,
      ⊎_elim (λ (none, is). shows_first e s (early (ap (λ p. p.spec) is)))
          (λ (_, _, shows) a b. shows (nothing_before 1 e s a) (nothing_before 2 e s b))
          (place s y h),
    )

-- only event 2 is bad, and only at the start
bad_at_start : (e : ℕ) → e < 3 → pair_step (worked true) (pair 0 0) e ≡ Bad → e ≡ 2
unfolding pair_step bit
bad_at_start zero h bad = let z : ◌≡◌ {A = ℕ} 0 1 = cc in absurd (omega arith)
bad_at_start (suc zero) h bad = let z : ◌≡◌ {A = ℕ} 0 1 = cc in absurd (omega arith)
bad_at_start (suc (suc e)) h bad = omega arith

bad_later : (x : Pair) (e : ℕ) → 0 < x.plant → x.spec ≡ 1 → pair_step (worked true) x e ≡ Bad → ⊥
unfolding bit
bad_later x e left one bad =
    let (p, event, steps, refused) = bad_step (worked true) x e bad in
    let two = listed_each (λ q d r. 0 < q → d ≡ 2) plant_rows (omega arith) x.plant e p steps left in
    let none : obeys (worked true) 1 2 ≡ None = ap (λ d. obeys (worked true) 1 d) (sym two) ∙ ap (λ q. obeys (worked true) q e) (sym one) ∙ refused in
    let z : ◌≡◌ {A = ℕ} 0 1 = cc in
    omega arith

bad_first : (s : List ℕ) (e : ℕ) → BadAfter (worked true) s e → (s ≡ []) × (e ≡ 2)
bad_first s e (x, h, bad) =
    let (p, event, steps, refused) = bad_step (worked true) x e bad in
    ⊎_elim (λ (none, is). (none, bad_at_start e event (ap (λ y. pair_step (worked true) y e) (sym is) ∙ bad)))
    (λ (left, one, shows). absurd (bad_later x e left one bad))
    (place s x h)

legal_shows : (s : List ℕ) → Legal (worked true) (2 ∷ s) → Shows s
unfolding pair_step bit
legal_shows s (y, (x, h, to)) =
    ⊎_elim (λ (none, is). absurd (legal_not_bad (pair_step (worked true) (pair 0 0) 2) y (ap (λ v. pair_step (worked true) v 2) (sym is) ∙ to) refl))
    (λ (left, one, shows). shows)
    (place s x h)

clear : (e : ℕ) → Counterexample (worked true) e → ⊥
clear e (s, t, h) = go (eqb e 2) refl h.conflict
  where
    go : (b : Bool) → eqb e 2 ≡ b → Conflict (worked true) e b s t → ⊥
    go false kind (bad, legal) = both_ways (eqb e 2) kind (eq-eqb e 2 (bad_first s e bad).1)
    go true kind (legal, bad) =
        let blank = λ (i : ℕ) (c : Controller (worked true) e i). sym (h.alike i c) ∙ ap (sight (two_sites true) i) (bad_first (t i) e (bad i c)).0 in
        legal_shows s (subst (λ d. Legal (worked true) (d ∷ s)) (eqb-true e 2 kind) legal) (blank 1 kind) (blank 2 kind)

pub disjunctive : Disjunctive
unfolding any all total mask_of bit pair_step columns pairs number pair_of after grown again hidden first_estimate told vote fusion
disjunctive = record {
  uncontrollable = refl;
  one_of_two = refl;
  first_one = refl;
  first_two = refl;
  seen_one = refl;
  stopped = refl;
  allowed = refl;
  generated = exact.whole (2 ∷ 0 ∷ []) (anyhow true).legal;
  together = along;
  clear = clear;
  exact = exact;
}
  where
    exact : Exact (worked true) (votes (worked true))
    exact = (votes_generate_legal_lem (worked true) (anyhow true).keeps clear).0

by_detour : Detour
unfolding pair_step bit
by_detour = record {
  legal = (pair 1 1, (pair 1 1, (pair 0 0, refl, refl), refl));
  possible = (1, (1, (0, (0, refl, omega arith, refl), omega arith, refl), omega arith, refl));
  alike = refl;
  not_legal = not_legal;
  no_part = λ h. not_legal (h.t_legal 1 refl);
}
  where
    not_legal : Legal detour (0 ∷ 1 ∷ []) → ⊥
    not_legal h = bad_not_legal detour 1 [] (pair 0 0, refl, refl) (legal_front detour 0 (1 ∷ []) h)

pub worked_example_lem : WorkedExample
worked_example_lem = record { anyhow = anyhow; unknown = unknown; conjunctive = conjunctive; disjunctive = disjunctive; detour = by_detour }
