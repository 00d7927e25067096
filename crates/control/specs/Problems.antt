-- What a problem in memory means, and what making one comes to. Assumes nothing.
use Rattle.std.specs.Prelude.{ℕ, ◌-◌, ◌^◌, Bool, cond, ◌&&◌, List, [], ◌∷◌, Ok, Err, Result, nat_le, nat_lt, slice_index}
use Rattle.plants.specs.Masks.{width, bit}
use Rattle.control.specs.Ranges.{most_sites, in_rows, within}
use Rattle.control.specs.Setup.{Setup}
use Rattle.control.specs.declared.problem.Mode.{Mode}
use Rattle.control.specs.declared.problem.Mode.TheVariants.{Conjunctive, Disjunctive}
use Rattle.control.specs.declared.problem.Problem.{Problem}
use Rattle.control.specs.declared.problem.Unmade.{Unmade}
use Rattle.control.specs.declared.problem.Unmade.TheVariants.{EventCount, SiteCount, MaskBit, ModeBit}

-- bit e in the row of site i: rows stand from 0, and sites are numbered from 1
abbrev pub row_bit : List ℕ → ℕ → ℕ → Bool
row_bit rows i e = nat_le 1 i && bit (slice_index rows (i - 1)) e

-- what a problem means
abbrev pub setup : Problem → Setup
setup p =
    record {
      events = p.events;
      sites = p.sites;
      sees = row_bit p.seen;
      controls = row_bit p.controlled;
      disjunctive = bit p.modes;
    }

-- the mode that a bit stands for
abbrev pub mode_of : Bool → Mode
mode_of b = cond b Disjunctive Conjunctive

-- the rows, with those past the site count dropped
abbrev pub kept : ℕ → List ℕ → ℕ → ℕ
kept sites rows k = cond (nat_lt k sites) (slice_index rows k) 0

abbrev pub kept_rows : ℕ → List ℕ → List ℕ
kept_rows sites rows = kept sites rows 0 ∷ kept sites rows 1 ∷ kept sites rows 2 ∷ kept sites rows 3 ∷ []

-- what a problem made of these numbers and rows means
abbrev pub filled : ℕ → ℕ → ℕ → List ℕ → List ℕ → Setup
filled events sites modes seen controlled =
    record {
      events = events;
      sites = sites;
      sees = row_bit (kept_rows sites seen);
      controls = row_bit (kept_rows sites controlled);
      disjunctive = bit modes;
    }

-- what a new problem means: one event, one site and no row
abbrev pub fresh : Setup
fresh = filled 1 1 0 [] []

-- no row has a bit at or above the event count
abbrev pub rows_below : ℕ → List ℕ → Bool
rows_below events rows =
    nat_lt (slice_index rows 0) (2 ^ events)
    && (nat_lt (slice_index rows 1) (2 ^ events) && (nat_lt (slice_index rows 2) (2 ^ events) && nat_lt (slice_index rows 3) (2 ^ events)))

abbrev pub masks_below : ℕ → ℕ → List ℕ → List ℕ → Bool
masks_below events modes seen controlled = nat_lt modes (2 ^ events) && (rows_below events seen && rows_below events controlled)

-- Making a problem: the first refusal that fits, or none. The last two: a bit at or above the event count in the modes or
-- in a kept row, and a mode bit for an event that no site controls.
abbrev pub making : ℕ → ℕ → ℕ → List ℕ → List ℕ → Result (Unit {0}) Unmade
making events sites modes seen controlled =
    cond (nat_le 1 events && nat_le events width)
    (cond (nat_le 1 sites && nat_le sites most_sites)
    (cond (masks_below events modes (kept_rows sites seen) (kept_rows sites controlled))
    (cond (within modes (in_rows (kept_rows sites controlled))) (Ok tt) (Err ModeBit))
    (Err MaskBit))
    (Err SiteCount))
    (Err EventCount)

-- the refusals' numbers
abbrev pub unmade_number : Unmade → ℕ
unmade_number EventCount = 41
unmade_number SiteCount = 42
unmade_number MaskBit = 43
unmade_number ModeBit = 44
