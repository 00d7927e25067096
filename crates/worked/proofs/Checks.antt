-- What check answers, case by case: the sizes of the examples compute and leave no refusal over, a clash is pinned by
-- what is known of all counterexamples, and where there is none the check is clear. Assumes nothing.
use Rattle.std.proofs.Common.{◌≡◌, ℕ, ◌<◌, ◌≤◌, Bool, true, false, List, length, Ok, Err, Option, Result, sym, refl, ap, ◌∙◌, subst, arith}
use Rattle.plants.specs.Ranges.{total}
use Rattle.control.specs.Systems.{System, system}
use Rattle.theory.specs.Counterexamples.{Counterexample, Refutes, moves}
use Rattle.theory.specs.Example.{four_states, two_sites, worked}
use Rattle.theory.specs.declared.moves.Move.{Move}
use Rattle.theory.proofs.Variants.{disjunctive}
use Rattle.checking.specs.Answers.{Checked, Clashes, Exceeds}
use Rattle.checking.specs.Sizes.{all_pairs, controllers, greatest, most_controllers, needed_cells}
use Rattle.checking.specs.declared.verdict.Refusal.{Refusal as Unchecked}
use Rattle.checking.specs.declared.verdict.Refusal.TheVariants.{VoidPlant, VoidSpec, TooManyPairs, TooFewCells, ShortTrace}
use Rattle.checking.specs.declared.verdict.Verdict.{Verdict}
use Rattle.checking.specs.declared.verdict.Verdict.TheVariants.{Clear, Clash}
use Rattle.worked.specs.Cases.{ChecksAnswer, early, uncontrolled}
use Rattle.worked.proofs.Forced.{Clashing, early_clash, early_clear, uncontrolled_clash, worked_clash}

-- the sizes of a system: a check of it needs n cells
pub record Sized (w : System) (n : ℕ) : Type 0 where
  pub some_plant : 0 < w.plant.count
  pub some_spec : 0 < w.spec.count
  pub few_pairs : all_pairs w ≤ 64
  pub needed : needed_cells w ≡ n

module _ (w : System) (n : ℕ) (sizes : Sized w n) (cells cells' : List ℕ) (trace trace' : List Move) where
  -- with enough cells every refusal but that of the trace is left out
  sized : (r : Unchecked) → n ≤ length cells → Checked w cells cells' trace trace' (Err r) → r ≡ ShortTrace
  sized VoidPlant enough h = absurd (omega arith)
  sized VoidSpec enough h = absurd (omega arith)
  sized TooManyPairs enough h = absurd (omega arith)
  sized TooFewCells enough h = absurd (omega arith)
  sized ShortTrace enough h = refl

  -- and with too few, that of the cells is the answer
  few : (r : Result Verdict Unchecked) → length cells < n → Checked w cells cells' trace trace' r → r ≡ Err TooFewCells
  few (Ok Clear) low h = absurd (omega (arith, h.fits.enough_cells))
  few (Ok (Clash e k)) low h = absurd (omega (arith, h.fits.enough_cells))
  few (Err VoidPlant) low h = absurd (omega arith)
  few (Err VoidSpec) low h = absurd (omega arith)
  few (Err TooManyPairs) low h = absurd (omega arith)
  few (Err TooFewCells) low h = refl
  few (Err ShortTrace) low h = absurd (omega (arith, h.fits.enough_cells))

  exceeds : (r : Unchecked) → n ≤ length cells → Checked w cells cells' trace trace' (Err r) → Exceeds w cells trace trace'
  exceeds r enough h = subst (λ x. Checked w cells cells' trace trace' (Err x)) (sized r enough h) h

  -- no counterexample: clear
  clear : ((e : ℕ) → Counterexample w e → ⊥) → (r : Result Verdict Unchecked) → n ≤ length cells → Checked w cells cells' trace trace' r → r ≡ Ok Clear
  clear none (Ok Clear) enough h = refl
  clear none (Ok (Clash e k)) enough h = absurd (none e h.lowest.some)
  clear none (Err r) enough h = let ex = exceeds r enough h in absurd (none ex.event ex.lowest.some)

  module _ (e k : ℕ) (clash : Clashing w e k) where
    -- every clash is at that event and of that many moves
    as_many : (d j : ℕ) → Clashes w cells trace trace' d j → (d ≡ e) × (j ≡ k)
    as_many d j h =
        let same = clash.event d h.lowest.some in
        let again = subst (λ c. Clashes w cells trace trace' c j) same h in
        (same, sym again.as_long ∙ clash.long _ _ again.refutes)

    too_short : Exceeds w cells trace trace' → length trace < k
    too_short h =
        let (s, t, refutes) = clash.some in
        let same = clash.event h.event h.lowest.some in
        let long = h.long s t (subst (λ d. Refutes w d s t) (sym same) refutes) in
        omega (arith, clash.long s t refutes, ap (λ d. moves w d s t) same)

    -- with room for the run it is the answer, and with less the trace is too short
    clashes : (r : Result Verdict Unchecked) → n ≤ length cells → k ≤ length trace → Checked w cells cells' trace trace' r → r ≡ Ok (Clash e k)
    clashes (Ok Clear) enough room h = absurd (h.none e clash.some)
    clashes (Ok (Clash d j)) enough room h = let (event, count) = as_many d j h in cc
    clashes (Err r) enough room h = absurd (omega (arith, too_short (exceeds r enough h)))

    short : (r : Result Verdict Unchecked) → n ≤ length cells → length trace < k → Checked w cells cells' trace trace' r → r ≡ Err ShortTrace
    short (Ok Clear) enough low h = absurd (h.none e clash.some)
    short (Ok (Clash d j)) enough low h = let (event, count) = as_many d j h in absurd (omega (arith, h.room))
    short (Err r) enough low h = ap Err (sized r enough h)

-- four states and two make 8 pairs, and two controllers of event 2 make it 8 × 8 × 8 cells
two_site_sizes : (b : Bool) (step : ℕ → ℕ → Option ℕ) → Sized (system (two_sites b) four_states (record { count = 2; first = 0; alphabet = 7; step = step })) 512
unfolding most_controllers controllers greatest total
two_site_sizes b step = record { some_plant = omega arith; some_spec = omega arith; few_pairs = omega arith; needed = refl }

worked_sizes : (b : Bool) → Sized (worked b) 512
worked_sizes b = two_site_sizes b (worked b).spec.step

early_sizes : (b : Bool) → Sized (early b) 512
early_sizes b = two_site_sizes b (early b).spec.step

uncontrolled_sizes : Sized uncontrolled 8
unfolding most_controllers controllers greatest total
uncontrolled_sizes = record { some_plant = omega arith; some_spec = omega arith; few_pairs = omega arith; needed = refl }

pub checks : ChecksAnswer
checks = record {
  conjunctive = λ cells cells' trace trace' r. clashes (worked false) 512 (worked_sizes false) cells cells' trace trace' 2 2 worked_clash r;
  disjunctive = λ cells cells' trace trace' r enough room. clear (worked true) 512 (worked_sizes true) cells cells' trace trace' disjunctive.clear r enough;
  early_conjunctive = λ cells cells' trace trace' r enough room. clear (early false) 512 (early_sizes false) cells cells' trace trace' early_clear r enough;
  early_disjunctive = λ cells cells' trace trace' r. clashes (early true) 512 (early_sizes true) cells cells' trace trace' 2 2 early_clash r;
  uncontrolled = λ cells cells' trace trace' r. clashes uncontrolled 8 uncontrolled_sizes cells cells' trace trace' 2 0 uncontrolled_clash r;
  eight_pairs = refl;
  too_few_cells = λ cells cells' trace trace' r count. few (worked false) 512 (worked_sizes false) cells cells' trace trace' r (omega arith);
  enough_cells = λ cells cells' trace trace' count h. let z = sized (worked false) 512 (worked_sizes false) cells cells' trace trace' TooFewCells (omega arith) h in let y : ◌≡◌ {A = ℕ} 0 1 = cc in omega arith;
  short_trace = λ cells cells' trace trace' r enough count. short (worked false) 512 (worked_sizes false) cells cells' trace trace' 2 2 worked_clash r enough (omega arith);
}
