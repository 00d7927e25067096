-- What a table means. Assumes nothing.
use Rattle.std.specs.Prelude.{ℕ, ◌+◌, ◌*◌, Bool, cond, ◌&&◌, List, length, is_some, Some, None, Ok, Err, vec_items, Option, Result, ◌==◌, nat_le, nat_lt, slice_index}
use Rattle.plants.specs.Masks.{width, bit}
use Rattle.plants.specs.Machine.{Machine, most_states, void}
use Rattle.plants.specs.declared.table.Misfit.{Misfit}
use Rattle.plants.specs.declared.table.Misfit.TheVariants.{OutOfRange, SecondStep}
use Rattle.plants.specs.declared.table.Table.{Table}

-- a table is void unless it has 1 to 64 states, its first state is one of them and its row has a byte for each state and event
abbrev pub fits : ℕ → ℕ → List ℕ → Bool
fits count first row = nat_le 1 count && (nat_le count most_states && (nat_lt first count && length row == width * count))

-- a byte at or above the count is no step
abbrev pub below : ℕ → ℕ → Option ℕ
below count r = cond (nat_lt r count) (Some r) None

-- the step from q on the event e stands in byte 32 × q + e
abbrev pub lookup : ℕ → ℕ → List ℕ → ℕ → ℕ → Option ℕ
lookup count alphabet row q e = cond (nat_lt q count && (nat_lt e width && bit alphabet e)) (below count (slice_index row (width * q + e))) None

abbrev pub table : ℕ → ℕ → ℕ → List ℕ → Machine
table count first alphabet row =
    cond (fits count first row) (record { count = count; first = first; alphabet = alphabet; step = lookup count alphabet row }) void

-- what a table in memory means
abbrev pub means : Table → Machine
means t = table t.count t.first t.alphabet (vec_items t.row)

-- a table of a given size that has no step yet
abbrev pub blank : ℕ → ℕ → ℕ → Machine
blank count first alphabet =
    cond (nat_le 1 count && (nat_le count most_states && nat_lt first count))
    (record { count = count; first = first; alphabet = alphabet; step = λ q e. None })
    void

-- a machine with the step from p on e to r added
abbrev pub with_step : Machine → ℕ → ℕ → ℕ → Machine
with_step m p e r =
    record {
      count = m.count;
      first = m.first;
      alphabet = m.alphabet;
      step = λ q d. cond (q == p && d == e) (Some r) (m.step q d);
    }

-- A step may be added between states of the machine, on an event of its alphabet, where there is no step yet.
abbrev pub admits : Machine → ℕ → ℕ → ℕ → Result (Unit {0}) Misfit
admits m p e r =
    cond (nat_lt p m.count && (nat_lt r m.count && bit m.alphabet e))
    (cond (is_some (m.step p e)) (Err SecondStep) (Ok tt))
    (Err OutOfRange)
