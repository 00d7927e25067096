-- The worked example, with event 2 of either kind: it keeps what every system keeps, and what the definitions say of its
-- strings and estimates computes. Under a specification that knows no event every possible string is legal.
-- Assumes nothing.
use Rattle.std.proofs.Common.{◌≡◌, ℕ, ◌<◌, Bool, true, ◌&&◌, ◌||◌, eqb, List, [], ◌∷◌, Some, sym, refl, ap, ◌∙◌, subst, inl, inr, ⊎_elim, arith}
use Rattle.std.proofs.lemmas.Bool.{cases_Bool, and_parts, or_cases, eqb-true, cond-true, cond-false}
use Rattle.plants.specs.Ranges.{any}
use Rattle.plants.specs.Masks.{bit, mask_of}
use Rattle.plants.specs.Bits.{bit_zero}
use Rattle.control.specs.Setup.{Sound}
use Rattle.control.specs.Systems.{Keeps, pair_step}
use Rattle.control.specs.Strings.{Follows, Leads}
use Rattle.control.proofs.Strings.{step_legal}
use Rattle.theory.specs.Counterexamples.{Controller}
use Rattle.theory.specs.Tuples.{Component}
use Rattle.theory.specs.Estimates.{columns, pairs, number, pair_of, after, grown, again, hidden, first_estimate, told}
use Rattle.theory.specs.Example.{listed, plant_rows, spec_rows, two_sites, worked, unruled, pair, Anyhow, Unknown}

-- what holds of every row holds of every step
abbrev pub Each : (ℕ → ℕ → ℕ → Type 0) → List (ℕ × ℕ × ℕ) → Type 0
Each P [] = Unit {0}
Each P (row ∷ rows) = P row.0 row.1 row.2 × Each P rows

pub listed_each : (P : ℕ → ℕ → ℕ → Type 0) (rows : List (ℕ × ℕ × ℕ)) → Each P rows → (q e r : ℕ) → listed rows q e ≡ Some r → P q e r
listed_each P [] each q e r h = let z : ◌≡◌ {A = ℕ} 0 1 = cc in absurd (omega arith)
listed_each P (row ∷ rows) (here, each) q e r h =
    ⊎_elim
    (λ hit.
    let (from, on) = and_parts (eqb q row.0) (eqb e row.1) hit in
    let to : Some row.2 ≡ Some r = sym (cond-true (eqb q row.0 && eqb e row.1) _ _ hit) ∙ h in
    let same : row.2 ≡ r = cc in
    subst (λ x. P x e r) (sym (eqb-true q row.0 from)) (subst (λ x. P row.0 x r) (sym (eqb-true e row.1 on)) (subst (P row.0 row.1) same here)))
    (λ miss. listed_each P rows each q e r (sym (cond-false (eqb q row.0 && eqb e row.1) _ _ miss) ∙ h))
    (cases_Bool (eqb q row.0 && eqb e row.1))

sound : (b : Bool) → Sound (two_sites b)
sound b = record {
  some_event = omega arith;
  some_site = omega arith;
  seer = λ i e h.
      ⊎_elim (λ one. let (site, event) = and_parts (eqb i 1) (eqb e 0) one in omega (arith, eqb-true i 1 site, eqb-true e 0 event))
      (λ two. let (site, event) = and_parts (eqb i 2) (eqb e 1) two in omega (arith, eqb-true i 2 site, eqb-true e 1 event))
      (or_cases (eqb i 1 && eqb e 0) (eqb i 2 && eqb e 1) h);
  controller = λ i e h.
      let (site, event) = and_parts (eqb i 1 || eqb i 2) (eqb e 2) h in
      ⊎_elim (λ one. omega (arith, eqb-true i 1 one, eqb-true e 2 event)) (λ two. omega (arith, eqb-true i 2 two, eqb-true e 2 event)) (or_cases (eqb i 1) (eqb i 2) site);
  chosen = λ e h. (1, (and_parts b (eqb e 2) h).1);
}

keeps : (b : Bool) → Keeps (worked b)
unfolding bit
keeps b = record {
  setup = sound b;
  plant = record {
    few = omega arith;
    void_first = λ none. refl;
    void_alphabet = λ none. absurd (omega arith);
    first_within = λ some. omega arith;
    from_within = listed_each (λ q e r. q < 4) plant_rows (omega arith);
    on_known = listed_each (λ q e r. bit 7 e ≡ true) plant_rows (refl, (refl, (refl, (refl, (refl, tt)))));
    to_within = listed_each (λ q e r. r < 4) plant_rows (omega arith);
  };
  spec = record {
    few = omega arith;
    void_first = λ none. refl;
    void_alphabet = λ none. absurd (omega arith);
    first_within = λ some. omega arith;
    from_within = listed_each (λ q e r. q < 2) spec_rows (omega arith);
    on_known = listed_each (λ q e r. bit 7 e ≡ true) spec_rows (refl, (refl, (refl, tt)));
    to_within = listed_each (λ q e r. r < 2) spec_rows (omega arith);
  };
}

-- the controllers of event 2 are the sites 1 and 2
pub by_controller : (b : Bool) (P : ℕ → Type 0) → P 1 → P 2 → (i : ℕ) → Controller (worked b) 2 i → P i
by_controller b P one two i c =
    ⊎_elim (λ is. subst P (sym (eqb-true i 1 is)) one) (λ is. subst P (sym (eqb-true i 2 is)) two) (or_cases (eqb i 1) (eqb i 2) (and_parts (eqb i 1 || eqb i 2) true c).0)

pub by_component : (b : Bool) (P : ℕ → Type 0) → P 0 → P 1 → P 2 → (k : ℕ) → Component (worked b) 2 k → P k
by_component b P none one two k = elim [ inl z ↦ subst P (sym z) none | inr c ↦ by_controller b P one two k c ]

pub anyhow : (b : Bool) → Anyhow b
unfolding any mask_of bit pair_step columns pairs number pair_of after grown again hidden first_estimate told
anyhow b = record {
  keeps = keeps b;
  sight_one = refl;
  sight_two = refl;
  unseen_two = refl;
  legal = (pair 3 1, (pair 1 1, (pair 0 0, refl, refl), refl));
  bad = (pair 0 0, refl, refl);
  possible = (3, (0, refl, omega arith, refl));
  first_one = refl;
  first_two = refl;
  told_one = refl;
  told_two = refl;
}

-- a specification that knows no event stays
unruled_leads : (b : Bool) (s : List ℕ) (q : ℕ) → Follows (unruled b) s q → Leads (unruled b) s (pair q 0)
unruled_leads b [] q h = ap (λ p. pair p 0) h
unruled_leads b (e ∷ s) q (p, h, event, steps) =
    (pair p 0, unruled_leads b s p h, step_legal (unruled b) (pair p 0) e q 0 event steps (cond-false (bit 0 e) _ _ (bit_zero e)))

pub unknown : (b : Bool) → Unknown b
unfolding pair_step bit
unknown b = record {
  stays = refl;
  legal = (pair 3 0, (pair 0 0, refl, refl));
  free = λ s (q, h). (pair q 0, unruled_leads b s q h);
}
