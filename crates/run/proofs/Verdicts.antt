-- A check has one answer. The sizes of the system and the number of cells settle which of the refusals 11 to 14 it is, or
-- that the sizes fit. Where they fit, either no event has a counterexample, and the check is clear; or one event is the lowest
-- that has one, with one least number of moves, and all that matters is whether so many moves fit the trace. Assumes nothing.
use Rattle.std.proofs.Common.{◌≡◌, ℕ, ◌≤◌, cond, eqb, ltb, List, length, Some, None, Ok, Err, Option, Result, sym, refl, ◌∙◌, subst, ⊎_elim, arith}
use Rattle.std.proofs.lemmas.Bool.{cases_order}
use Rattle.std.proofs.lemmas.Bool.Decides.{nat_tests}
use Rattle.control.specs.Systems.{System}
use Rattle.theory.specs.declared.moves.Move.{Move}
use Rattle.checking.specs.Answers.{Checked, Clashes, Clears, Exceeds, Lowest}
use Rattle.checking.specs.Sizes.{Fits, all_pairs, needed_cells}
use Rattle.checking.specs.declared.verdict.Refusal.{Refusal}
use Rattle.checking.specs.declared.verdict.Refusal.TheVariants.{VoidPlant, VoidSpec, TooManyPairs, TooFewCells, ShortTrace}
use Rattle.checking.specs.declared.verdict.Verdict.{Verdict}
use Rattle.checking.specs.declared.verdict.Verdict.TheVariants.{Clear, Clash}

-- the refusal that the sizes ask for, with m cells
abbrev refusal : System → ℕ → Option Refusal
refusal w m =
    cond (eqb w.plant.count 0) (Some VoidPlant) (cond (eqb w.spec.count 0) (Some VoidSpec) (cond (ltb 64 (all_pairs w)) (Some TooManyPairs) (cond (ltb m (needed_cells w)) (Some TooFewCells) None)))

-- the answers where the sizes fit
data Fitting (w : System) (cells : List ℕ) (trace trace' : List Move) : Result Verdict Refusal → Type 0 where
  clears : Clears w cells trace trace' → Fitting w cells trace trace' (Ok Clear)
  clashes : (e k : ℕ) → Clashes w cells trace trace' e k → Fitting w cells trace trace' (Ok (Clash e k))
  exceeds : Exceeds w cells trace trace' → Fitting w cells trace trace' (Err ShortTrace)

-- the answer is that refusal, or the sizes fit
abbrev Settled : System → List ℕ → List Move → List Move → Result Verdict Refusal → Option Refusal → Type 0
Settled w cells trace trace' r (Some why) = r ≡ Err why
Settled w cells trace trace' r None = Fitting w cells trace trace' r

module _ (w : System) (cells : List ℕ) (trace trace' : List Move) where
  by : (r : Result Verdict Refusal) (o : Option Refusal) → refusal w (length cells) ≡ o → Settled w cells trace trace' r o → Settled w cells trace trace' r (refusal w (length cells))
  by r o is h = subst (Settled w cells trace trace' r) (sym is) h

  fitting : (r : Result Verdict Refusal) → Fits w cells → Fitting w cells trace trace' r → Settled w cells trace trace' r (refusal w (length cells))
  fitting r fits h = by r None (grind (arith, nat_tests)) h

  -- what an answer says of the sizes decides every test of the refusal
  settled : (cells' : List ℕ) (r : Result Verdict Refusal) → Checked w cells cells' trace trace' r → Settled w cells trace trace' r (refusal w (length cells))
  settled cells' (Ok Clear) h = fitting (Ok Clear) h.fits (clears h)
  settled cells' (Ok (Clash e k)) h = fitting (Ok (Clash e k)) h.fits (clashes e k h)
  settled cells' (Err VoidPlant) (none, same) = by (Err VoidPlant) (Some VoidPlant) (grind (arith, nat_tests)) refl
  settled cells' (Err VoidSpec) (plant, none, same) = by (Err VoidSpec) (Some VoidSpec) (grind (arith, nat_tests)) refl
  settled cells' (Err TooManyPairs) (plant, spec, many, same) = by (Err TooManyPairs) (Some TooManyPairs) (grind (arith, nat_tests)) refl
  settled cells' (Err TooFewCells) (plant, spec, pairs, few, same) = by (Err TooFewCells) (Some TooFewCells) (grind (arith, nat_tests)) refl
  settled cells' (Err ShortTrace) h = fitting (Err ShortTrace) h.fits (exceeds h)

-- one event is the lowest
lowest_once : (w : System) (d e : ℕ) → Lowest w d → Lowest w e → d ≡ e
lowest_once w d e h k =
    ⊎_elim (λ same. same) (⊎_elim (λ low. absurd (k.none_below d low h.some)) (λ high. absurd (h.none_below e high k.some))) (cases_order d e)

module _ {w : System} {c d : List ℕ} {t t' u u' : List Move} where
  -- of two clashes at one event neither has more moves
  at_most : {e k j : ℕ} → Clashes w c t t' e k → Clashes w d u u' e j → k ≤ j
  at_most h x = omega (arith, h.least _ _ x.refutes, x.as_long)

  -- a run that fits one trace fits the other
  fits_or_exceeds : {e k : ℕ} → length t ≡ length u → Clashes w c t t' e k → Exceeds w d u u' → ⊥
  fits_or_exceeds {e} {k} as_long h x =
      let same = subst (λ a. Clashes w c t t' a k) (lowest_once w e x.event h.lowest x.lowest) h in
      omega (arith, same.room, same.as_long, x.long _ _ same.refutes)

-- where the sizes fit, traces as long as each other have one answer
fitting_once : {w : System} {c d : List ℕ} {t t' u u' : List Move} {r s : Result Verdict Refusal} → length t ≡ length u → Fitting w c t t' r → Fitting w d u u' s → r ≡ s
fitting_once as_long (clears h) (clears x) = refl
fitting_once as_long (clears h) (clashes e k x) = absurd (h.none e x.lowest.some)
fitting_once as_long (clears h) (exceeds x) = absurd (h.none x.event x.lowest.some)
fitting_once as_long (clashes e k h) (clears x) = absurd (x.none e h.lowest.some)
fitting_once {w} {c} {d} {t} {t'} {u} {u'} as_long (clashes e k h) (clashes f j x) =
    let event = lowest_once w e f h.lowest x.lowest in
    let same = subst (λ a. Clashes w c t t' a k) event h in
    let count : k ≡ j = omega (arith, at_most same x, at_most x same) in
    cc
fitting_once as_long (clashes e k h) (exceeds x) = absurd (fits_or_exceeds as_long h x)
fitting_once as_long (exceeds h) (clears x) = absurd (x.none h.event h.lowest.some)
fitting_once as_long (exceeds h) (clashes e k x) = absurd (fits_or_exceeds (sym as_long) x h)
fitting_once as_long (exceeds h) (exceeds x) = refl

pub checked_once : (w : System) (c c' d d' : List ℕ) (t t' u u' : List Move) (r s : Result Verdict Refusal) → length c ≡ length d → length t ≡ length u → Checked w c c' t t' r → Checked w d d' u u' s → r ≡ s
checked_once w c c' d d' t t' u u' r s as_many as_long h k =
    both (refusal w (length c)) (settled w c t t' c' r h) (subst (λ n. Settled w d u u' s (refusal w n)) (sym as_many) (settled w d u u' d' s k))
  where
    both : (o : Option Refusal) → Settled w c t t' r o → Settled w d u u' s o → r ≡ s
    both (Some why) a b = a ∙ sym b
    both None a b = fitting_once as_long a b
