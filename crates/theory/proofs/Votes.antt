-- Where no event has a counterexample, the votes taken as rules generate exactly the legal strings. Both ways go by the
-- string. Whatever fusion would get wrong after a string, each controller's estimate shows by a pair, and the legal
-- strings that lead to those pairs are a counterexample. Assumes nothing.
use Rattle.std.proofs.Common.{◌≡◌, ℕ, Bool, true, false, not, ◌&&◌, eqb, ◌⊎◌, List, [], ◌∷◌, sym, refl, ap, ◌∙◌, subst, inl, inr, ⊎_elim}
use Rattle.std.proofs.lemmas.Bool.{false≢true, cases_Bool, both_ways, cond-true, cond-false, and_from, and_parts, ne_eqb, not-true, not-false, not_from_false}
use Rattle.plants.specs.Ranges.{any}
use Rattle.plants.specs.Masks.{bit}
use Rattle.plants.proofs.Ranges.{false_after, any_from, any_found}
use Rattle.plants.specs.Bits.{bit_zero}
use Rattle.control.specs.Systems.{System, Keeps, first_pair, pair_step}
use Rattle.control.specs.Strings.{Possible, Leads, Legal, BadAfter, sight}
use Rattle.control.specs.declared.pair.Pair.{Pair}
use Rattle.control.specs.declared.pair.PairStep.{PairStep}
use Rattle.control.specs.declared.pair.PairStep.TheVariants.{NoStep, Bad, Legal as To}
use Rattle.control.proofs.Strings.{legal_possible, legal_front, follows_once, leads_follows, plant_step}
use Rattle.theory.specs.Rules.{fusion, Generates, Generates.nothing, Generates.added, Exact}
use Rattle.theory.specs.Counterexamples.{Controller, Conflict, Counterexample}
use Rattle.theory.specs.Estimates.{pairs, number, pair_of, is_legal, is_bad, estimate, vote, votes}
use Rattle.theory.specs.Theorems.{VotesGenerateLegal}
use Rattle.theory.proofs.Fusion.{conjunctive_from, conjunctive_each, disjunctive_from, disjunctive_some}
use Rattle.theory.proofs.Rules.{after_string}
use Rattle.theory.proofs.Pairs.{leads_within, number_below, pair_of_number}
use Rattle.theory.proofs.Estimates.{estimate_led, estimate_member}

-- where each controller has a string, there is one function that gives them all
choose : (c : ℕ → Bool) (P : ℕ → List ℕ → Type 0) → ((i : ℕ) → c i ≡ true → (t : List ℕ) × P i t) → (t : ℕ → List ℕ) × ((i : ℕ) → c i ≡ true → P i (t i))
choose c P has = ((λ i. pick i (c i) refl), λ i h. right i h (c i) refl)
  where
    pick : (i : ℕ) (b : Bool) → c i ≡ b → List ℕ
    pick i true h = (has i h).0
    pick i false h = []

    right : (i : ℕ) → c i ≡ true → (b : Bool) (h : c i ≡ b) → P i (pick i b h)
    right i has_one true h = (has i h).1
    right i has_one false h = absurd (both_ways (c i) h has_one)

legal_is : (o : PairStep Pair) → is_legal o ≡ true → (y : Pair) × (o ≡ To y)
legal_is NoStep h = absurd (false≢true h)
legal_is Bad h = absurd (false≢true h)
legal_is (To y) h = (y, refl)

bad_is : (o : PairStep Pair) → is_bad o ≡ true → o ≡ Bad
bad_is NoStep h = absurd (false≢true h)
bad_is Bad h = refl
bad_is (To y) h = absurd (false≢true h)

-- t has the sight of s for site i, and after t the event is legal, or bad
abbrev LegalLike : System → ℕ → List ℕ → ℕ → List ℕ → Type 0
LegalLike w e s i t = (sight w.setup i t ≡ sight w.setup i s) × Legal w (e ∷ t)

abbrev BadLike : System → ℕ → List ℕ → ℕ → List ℕ → Type 0
BadLike w e s i t = (sight w.setup i t ≡ sight w.setup i s) × BadAfter w t e

-- a test that a pair of the estimate passes
abbrev some_pair : System → ℕ → ℕ → (PairStep Pair → Bool) → Bool
some_pair w m e test = any (pairs w) (λ n. bit m n && test (pair_step w (pair_of w n) e))

module _ (w : System) (kept : Keeps w) (i : ℕ) (e : ℕ) where
  -- a string with equal sight shows what a pair of the estimate passes
  shown : (s : List ℕ) (test : PairStep Pair → Bool) → some_pair w (estimate w i (sight w.setup i s)) e test ≡ true
      → (t : List ℕ) × (x : Pair) × Leads w t x × (sight w.setup i t ≡ sight w.setup i s) × (test (pair_step w x e) ≡ true)
  shown s test h =
      let m = estimate w i (sight w.setup i s) in
      let (n, low, both) = any_found (pairs w) (λ n. bit m n && test (pair_step w (pair_of w n) e)) h in
      let (member, pass) = and_parts (bit m n) (test (pair_step w (pair_of w n) e)) both in
      let (x, t, leads, is, same) = estimate_led w kept i s n member in
      let found : pair_of w n ≡ x = ap (pair_of w) (sym is) ∙ pair_of_number w x (leads_within w kept t x leads) in
      (t, x, leads, same, ap (λ y. test (pair_step w y e)) (sym found) ∙ pass)

  -- and a pair that the string leads to passes if its step does
  passes : (s : List ℕ) (x : Pair) (test : PairStep Pair → Bool) → Leads w s x → test (pair_step w x e) ≡ true → some_pair w (estimate w i (sight w.setup i s)) e test ≡ true
  passes s x test h pass =
      let m = estimate w i (sight w.setup i s) in
      let (inside, member) = estimate_member w kept i s x h in
      any_from (pairs w) (λ n. bit m n && test (pair_step w (pair_of w n) e)) (number w x) (number_below w x inside)
      (and_from (bit m (number w x)) _ member (ap (λ y. test (pair_step w y e)) (pair_of_number w x inside) ∙ pass))

  -- conjunctive: a yes where the event is legal, and behind each yes a string after which it is
  legal_voted : Controller w e i → w.setup.disjunctive e ≡ false → (s : List ℕ) → Legal w (e ∷ s) → votes w i (sight w.setup i s) e ≡ true
  unfolding vote
  legal_voted c kind s (y, (x, h, to)) = and_from (w.setup.controls i e) _ c (cond-false (w.setup.disjunctive e) _ _ kind ∙ passes s x is_legal h (ap is_legal to))

  voted_legal : w.setup.disjunctive e ≡ false → (s : List ℕ) → votes w i (sight w.setup i s) e ≡ true → (t : List ℕ) × LegalLike w e s i t
  unfolding vote
  voted_legal kind s said =
      let (c, both) = and_parts (w.setup.controls i e) _ said in
      let (t, x, h, same, pass) = shown s is_legal (sym (cond-false (w.setup.disjunctive e) _ _ kind) ∙ both) in
      let (y, to) = legal_is (pair_step w x e) pass in
      (t, (same, (y, (x, h, to))))

  -- disjunctive: no yes where the event is bad, and behind each no a string after which it is
  bad_not_voted : w.setup.disjunctive e ≡ true → (s : List ℕ) (x : Pair) → Leads w s x → pair_step w x e ≡ Bad → votes w i (sight w.setup i s) e ≡ true → ⊥
  unfolding vote
  bad_not_voted kind s x h bad said =
      let (c, both) = and_parts (w.setup.controls i e) _ said in
      let (some, none) = and_parts _ _ (sym (cond-true (w.setup.disjunctive e) _ _ kind) ∙ both) in
      both_ways _ (not-true _ none) (passes s x is_bad h (ap is_bad bad))

  not_voted_bad : Controller w e i → w.setup.disjunctive e ≡ true → (s : List ℕ) → Legal w s → votes w i (sight w.setup i s) e ≡ false → (t : List ℕ) × BadLike w e s i t
  unfolding vote
  not_voted_bad c kind s (x, h) refused =
      let m = estimate w i (sight w.setup i s) in
      let (inside, member) = estimate_member w kept i s x h in
      let n = number w x in
      let empty : eqb m 0 ≡ false = ne_eqb m 0 (λ is. both_ways (bit m n) (ap (λ k. bit k n) is ∙ bit_zero n) member) in
      let both = sym (cond-true (w.setup.disjunctive e) _ _ kind) ∙ false_after (w.setup.controls i e) _ c refused in
      let none : not (some_pair w m e is_bad) ≡ false = false_after (not (eqb m 0)) _ (not_from_false (eqb m 0) empty) both in
      let (t, z, leads, same, pass) = shown s is_bad (not-false _ none) in
      (t, (same, (z, leads, bad_is (pair_step w z e) pass)))

module _ (w : System) (kept : Keeps w) (none : (e : ℕ) → Counterexample w e → ⊥) where
  abbrev controllers : ℕ → ℕ → Bool
  controllers e i = w.setup.controls i e

  -- what the votes say of e after s, site by site and by fusion
  abbrev said : ℕ → List ℕ → ℕ → Bool
  said e s = after_string w (votes w) e s

  abbrev allowed : ℕ → List ℕ → Bool
  allowed e s = fusion w.setup e (said e s)

  -- the votes allow no bad step
  bad_not_allowed : (e : ℕ) (s : List ℕ) (x : Pair) → Leads w s x → pair_step w x e ≡ Bad → allowed e s ≡ true → (b : Bool) → w.setup.disjunctive e ≡ b → ⊥
  bad_not_allowed e s x h bad fused true kind =
      let (i, c, voted) = disjunctive_some w.setup kept.setup e (said e s) kind fused in
      bad_not_voted w kept i e kind s x h bad voted
  bad_not_allowed e s x h bad fused false kind =
      let voted = conjunctive_each w.setup kept.setup e (said e s) kind fused in
      let (t, right) = choose (controllers e) (LegalLike w e s) (λ i c. voted_legal w kept i e kind s (voted i c)) in
      none e (
        s,
        t,
        record {
          s_legal = (x, h);
          t_legal = λ i c. legal_front w e (t i) (right i c).1;
          alike = λ i c. (right i c).0;
          conflict = subst (λ b. Conflict w e b s t) (sym kind) ((x, h, bad), λ i c. (right i c).1);
        },
      )

  -- the votes allow every legal step
  legal_allowed : (e : ℕ) (s : List ℕ) → Legal w (e ∷ s) → (b : Bool) → w.setup.disjunctive e ≡ b → allowed e s ≡ true
  legal_allowed e s legal false kind = conjunctive_from w.setup kept.setup e (said e s) kind (λ i c. legal_voted w kept i e c kind s legal)
  legal_allowed e s legal true kind = ⊎_elim (λ fused. fused) refused (cases_Bool (allowed e s))
    where
      no_vote : (i : ℕ) → Controller w e i → (said e s i ≡ true) ⊎ (said e s i ≡ false) → allowed e s ≡ false → said e s i ≡ false
      no_vote i c (inl voted) stopped = absurd (both_ways (allowed e s) stopped (disjunctive_from w.setup kept.setup e (said e s) kind i c voted))
      no_vote i c (inr n) stopped = n

      refused : allowed e s ≡ false → allowed e s ≡ true
      refused stopped =
          let front = legal_front w e s legal in
          let (t, right) = choose (controllers e) (BadLike w e s) (λ i c. not_voted_bad w kept i e c kind s front (no_vote i c (cases_Bool (said e s i)) stopped)) in
          absurd (none e (
            s,
            t,
            record {
              s_legal = front;
              t_legal = λ i c. ((right i c).1.0, (right i c).1.1);
              alike = λ i c. (right i c).0;
              conflict = subst (λ b. Conflict w e b s t) (sym kind) (legal, λ i c. (right i c).1);
            },
          ))

  -- a possible step that the votes allow is legal
  allowed_legal : (e : ℕ) (s : List ℕ) → Legal w s → Possible w (e ∷ s) → allowed e s ≡ true → Legal w (e ∷ s)
  allowed_legal e s (x, h) (q, (p, follows, event, steps)) fused = go (pair_step w x e) refl
    where
      go : (o : PairStep Pair) → pair_step w x e ≡ o → Legal w (e ∷ s)
      go NoStep is = absurd (plant_step w x e q event (ap (λ v. w.plant.step v e) (follows_once w s x.plant p (leads_follows w s x h) follows) ∙ steps) is)
      go Bad is = absurd (bad_not_allowed e s x h is fused (w.setup.disjunctive e) refl)
      go (To y) is = (y, (x, h, is))

  generated_legal : (s : List ℕ) → Generates w (votes w) s → Legal w s
  generated_legal s nothing = (first_pair w, refl)
  generated_legal s (added {s = r} {e} front possible fused) = allowed_legal e r (generated_legal r front) possible fused

  legal_generated : (s : List ℕ) → Legal w s → Generates w (votes w) s
  legal_generated [] legal = nothing
  legal_generated (e ∷ s) legal =
      added (legal_generated s (legal_front w e s legal)) (legal_possible w (e ∷ s) legal) (legal_allowed e s legal (w.setup.disjunctive e) refl)

  votes_exact : Exact w (votes w)
  votes_exact = record { legal = generated_legal; whole = legal_generated }

pub votes_generate_legal_lem : VotesGenerateLegal
votes_generate_legal_lem w kept none = (votes_exact w kept none, (votes w, votes_exact w kept none))
