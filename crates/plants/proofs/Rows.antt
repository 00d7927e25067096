-- What a table's row says: a row of empty places means no step, and a byte written into one place adds one step and
-- changes no other. Places are told apart by their row and column, since a column is below the width.
-- Assumes nothing.
use Rattle.std.proofs.Common.{◌≡◌, ℕ, ◌+◌, ◌*◌, ◌<◌, ◌≤◌, Bool, true, false, cond, ◌&&◌, eqb, ltb, leb, List, length, get_or, set, replicate, Some, None, Option, refl, ap, arith, length-set, get_or-set_other, get_or-set_same, eq-eqb, leb-true}
use mathlib.Core.Path.{fun_ext}
use lib.ListN.{length-replicate, get_or-replicate}
use Rattle.std.proofs.lemmas.Bool.Decides.{nat_tests}
use Rattle.plants.specs.Masks.{width, bit}
use Rattle.plants.specs.Machine.{Machine, most_states, void}
use Rattle.plants.specs.Tables.{fits, lookup, table, blank, with_step}

-- a place of the row, by its state and event
place_within : (q e count : ℕ) → q < count → e < width → width * q + e < width * count
place_within q e count hq he = omega arith

-- equal places have equal states and events
elsewhere : (p e q d : ℕ) → e < width → ltb d width ≡ true → (eqb q p && eqb d e) ≡ false → width * q + d ≡ width * p + e → ⊥
elsewhere p e q d he hd apart clash = grind (arith, nat_tests)

module _ (count alphabet : ℕ) where
  lookup_blank : (q e : ℕ) → count ≤ most_states → lookup count alphabet (replicate (width * count) 255) q e ≡ None
  lookup_blank q e few =
      let empty : q < count → e < width → ◌≡◌ {A = ℕ} (get_or (replicate (width * count) 255) (width * q + e) 0) 255 = λ hq he. get_or-replicate (width * count) (width * q + e) 255 0 (place_within q e count hq he) in
      grind (arith, nat_tests, empty)

  -- a row of empty places
  pub blank_row : (first : ℕ) → table count first alphabet (replicate (width * count) 255) ≡ blank count first alphabet
  blank_row first = sized (leb 1 count) (leb count most_states) (ltb first count) refl
    where
      row : List ℕ
      row = replicate (width * count) 255

      long : eqb (length row) (width * count) ≡ true
      long = eq-eqb _ _ (length-replicate (width * count) 255)

      made : (step : ℕ → ℕ → Option ℕ) → Machine
      made step = record { count = count; first = first; alphabet = alphabet; step = step }

      sized : (x y z : Bool) → leb count most_states ≡ y → cond (x && (y && (z && eqb (length row) (width * count)))) (made (lookup count alphabet row)) void ≡ cond (x && (y && z)) (made (λ q e. None)) void
      sized true true true few = rw long (ap made (fun_ext (λ q. fun_ext (λ e. lookup_blank q e (leb-true count most_states few)))))
      sized true true false few = refl
      sized true false z few = refl
      sized false y z few = refl

  -- one byte more
  module _ (row : List ℕ) (p e r : ℕ) (from : p < count) (event : e < width) (known : bit alphabet e ≡ true) (to : r < count) (long : length row ≡ width * count) where
    lookup_set : (q d : ℕ) → lookup count alphabet (set row (width * p + e) r) q d ≡ cond (eqb q p && eqb d e) (Some r) (lookup count alphabet row q d)
    lookup_set q d =
        let here : width * p + e < length row = omega (arith, place_within p e count from event) in
        let same : get_or (set row (width * p + e) r) (width * p + e) 0 ≡ r = get_or-set_same row (width * p + e) r 0 here in
        let other : ltb d width ≡ true → (eqb q p && eqb d e) ≡ false → get_or (set row (width * p + e) r) (width * q + d) 0 ≡ get_or row (width * q + d) 0 = λ hd apart. get_or-set_other row (width * p + e) (width * q + d) r 0 (λ clash. elsewhere p e q d event hd apart clash) in
        grind (arith, nat_tests, same, other)

    pub set_row : (first : ℕ) → fits count first row ≡ true → table count first alphabet (set row (width * p + e) r) ≡ with_step (table count first alphabet row) p e r
    set_row first sound =
        let kept : fits count first (set row (width * p + e) r) ≡ true = rw length-set sound in
        rw (kept, sound) (ap (λ step. record { count = count; first = first; alphabet = alphabet; step = step }) (fun_ext (λ q. fun_ext (λ d. lookup_set q d))))

-- a table with a state is no void one, so it means its fields
pub record Whole (count first alphabet : ℕ) (row : List ℕ) : Type 0 where
  pub sound : fits count first row ≡ true
  pub states : (table count first alphabet row).count ≡ count
  pub events : (table count first alphabet row).alphabet ≡ alphabet
  pub long : length row ≡ width * count

pub whole_table : (count first alphabet : ℕ) (row : List ℕ) (q : ℕ) → q < (table count first alphabet row).count → Whole count first alphabet row
whole_table count first alphabet row q h = record { sound = grind (arith, nat_tests); states = grind (arith, nat_tests); events = grind (arith, nat_tests); long = grind (arith, nat_tests) }
