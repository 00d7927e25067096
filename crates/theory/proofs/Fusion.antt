-- Fusion in words: what the controllers say of a conjunctive, a disjunctive and an uncontrollable event. Fusion asks every
-- number up to the site count, and a controller is one of them. Assumes nothing.
use Rattle.std.proofs.Common.{◌≡◌, ℕ, suc, ◌<◌, Bool, true, false, not, ◌&&◌, ◌||◌, sym, ◌∙◌, ⊎_elim, arith}
use Rattle.std.proofs.lemmas.Bool.{cases_Bool, both_ways, cond-true, cond-false, and_from, and_parts, or_left, or_right, or_cases, not_from_false, not-true}
use Rattle.plants.proofs.Ranges.{any_from, any_found, all_from, all_at}
use Rattle.control.specs.Setup.{Setup, Sound}
use Rattle.theory.specs.Rules.{fusion}
use Rattle.theory.specs.Theorems.{FusionInWords}

module _ (p : Setup) (sound : Sound p) (e : ℕ) (says : ℕ → Bool) where
  -- a controller is below one more than the site count
  controller_below : (i : ℕ) → p.controls i e ≡ true → i < suc p.sites
  controller_below i c = omega (arith, sound.controller i e c)

  -- conjunctive: all controllers say yes
  pub conjunctive_from : p.disjunctive e ≡ false → ((i : ℕ) → p.controls i e ≡ true → says i ≡ true) → fusion p e says ≡ true
  unfolding fusion
  conjunctive_from kind each =
      cond-false (p.disjunctive e) _ _ kind
      ∙ all_from (suc p.sites) (λ i. not (p.controls i e) || says i)
      (λ i low.
      ⊎_elim (λ c. or_right (not (p.controls i e)) (says i) (each i c))
      (λ n. or_left (not (p.controls i e)) (says i) (not_from_false (p.controls i e) n))
      (cases_Bool (p.controls i e)))

  pub conjunctive_each : p.disjunctive e ≡ false → fusion p e says ≡ true → (i : ℕ) → p.controls i e ≡ true → says i ≡ true
  unfolding fusion
  conjunctive_each kind fused i c =
      let every = sym (cond-false (p.disjunctive e) _ _ kind) ∙ fused in
      ⊎_elim (λ n. absurd (both_ways (p.controls i e) (not-true (p.controls i e) n) c)) (λ h. h)
      (or_cases (not (p.controls i e)) (says i) (all_at (suc p.sites) (λ j. not (p.controls j e) || says j) every i (controller_below i c)))

  -- disjunctive: some controller says yes
  pub disjunctive_from : p.disjunctive e ≡ true → (i : ℕ) → p.controls i e ≡ true → says i ≡ true → fusion p e says ≡ true
  unfolding fusion
  disjunctive_from kind i c h =
      cond-true (p.disjunctive e) _ _ kind ∙ any_from (suc p.sites) (λ j. p.controls j e && says j) i (controller_below i c) (and_from (p.controls i e) (says i) c h)

  pub disjunctive_some : p.disjunctive e ≡ true → fusion p e says ≡ true → (i : ℕ) × (p.controls i e ≡ true) × (says i ≡ true)
  unfolding fusion
  disjunctive_some kind fused =
      let (i, low, both) = any_found (suc p.sites) (λ j. p.controls j e && says j) (sym (cond-true (p.disjunctive e) _ _ kind) ∙ fused) in
      let (c, h) = and_parts (p.controls i e) (says i) both in
      (i, c, h)

  -- uncontrollable: always allowed
  pub uncontrollable_allowed : ((i : ℕ) → p.controls i e ≡ true → ⊥) → fusion p e says ≡ true
  uncontrollable_allowed none =
      ⊎_elim (λ kind. let (i, c) = sound.chosen e kind in absurd (none i c)) (λ kind. conjunctive_from kind (λ i c. absurd (none i c))) (cases_Bool (p.disjunctive e))

pub fusion_in_words_lem : FusionInWords
fusion_in_words_lem p sound e says = record {
  uncontrollable = uncontrollable_allowed p sound e says;
  conjunctive = λ kind. (conjunctive_each p sound e says kind, conjunctive_from p sound e says kind);
  disjunctive = λ kind. (disjunctive_some p sound e says kind, λ (i, c, h). disjunctive_from p sound e says kind i c h);
}
