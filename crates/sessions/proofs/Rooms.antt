-- There is room for the pairs of a session: the counts of its opening multiply to at most 64. A void machine counts as one
-- state, and no machine has more than 64.
-- Assumes nothing.
use Rattle.std.proofs.Common.{◌≡◌, ℕ, zero, suc, ◌*◌, ◌<◌, ◌≤◌, max, true, eqb, List, Some, None, Ok, Option, MatchOption, sym, refl, subst₂, arith}
use Rattle.std.proofs.Math.Nat.{mul-le-mul}
use Rattle.std.specs.Option.{IsSome}
use Rattle.std.proofs.lemmas.Bool.{and_parts, eqb-true}
use Rattle.control.specs.Systems.{System, Keeps}
use Rattle.theory.specs.Estimates.{columns, pairs}
use Rattle.theory.specs.declared.moves.Move.{Move}
use Rattle.checking.specs.Answers.{Checked}
use Rattle.checking.specs.declared.verdict.Verdict.{Verdict}
use Rattle.checking.specs.declared.verdict.Verdict.TheVariants.{Clear, Clash}
use Rattle.sessions.specs.Calls.{same_counts}
use Rattle.sessions.specs.Status.{Status}

at_least : (n : ℕ) → max (suc n) 1 ≡ suc n
at_least n = omega arith

padded : (a b : ℕ) → a ≤ 64 → b ≤ 64 → a * b ≤ 64 → max a 1 * max b 1 ≤ 64
padded zero b ha hb both = omega arith
padded (suc a) zero ha hb both = omega arith
padded (suc a) (suc b) ha hb both = subst₂ (λ m n. m * n ≤ 64) (sym (at_least a)) (sym (at_least b)) both

-- as many pairs as there are have numbers
given : {A : Type 0} (P : A → Type 0) (n : ℕ) (o : Option A) → MatchOption o (64 < n) P → n ≤ 64 → IsSome o
given P n (Some x) h few = refl
given P n None h few = absurd (omega arith)

-- what is brought has the counts of the opening, so its counts multiply to as little
pub brought : (w : System) (s : Status) → s.plant_count * s.spec_count ≤ 64 → same_counts w s ≡ true → w.plant.count * w.spec.count ≤ 64
brought w s few same =
    let (plant, rest) = and_parts (eqb s.plant_count w.plant.count) _ same in
    let (spec, sites) = and_parts (eqb s.spec_count w.spec.count) _ rest in
    subst₂ (λ m n. m * n ≤ 64) (eqb-true s.plant_count w.plant.count plant) (eqb-true s.spec_count w.spec.count spec) few

module _ (w : System) where
  pub numbers : {A : Type 0} (P : A → Type 0) (o : Option A) → MatchOption o (64 < pairs w) P → Keeps w → w.plant.count * w.spec.count ≤ 64 → IsSome o
  unfolding pairs columns
  numbers P o h keeps few = given P (pairs w) o h (padded w.plant.count w.spec.count keeps.plant.few keeps.spec.few few)

  pub few_counts : pairs w ≤ 64 → w.plant.count * w.spec.count ≤ 64
  unfolding pairs columns
  few_counts room = omega (arith, mul-le-mul {n₁ = w.plant.count} {m₁ = w.spec.count} {n₂ = max w.plant.count 1} {m₂ = max w.spec.count 1} (omega arith) (omega arith))

  -- a check that answers a verdict found few enough pairs
  pub verdict_few : (cells cells' : List ℕ) (trace trace' : List Move) (v : Verdict) → Checked w cells cells' trace trace' (Ok v) → w.plant.count * w.spec.count ≤ 64
  verdict_few cells cells' trace trace' Clear checked = checked.fits.few_pairs
  verdict_few cells cells' trace trace' (Clash e k) checked = checked.fits.few_pairs
