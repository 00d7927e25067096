-- What a counter means. Assumes nothing.
use Rattle.std.specs.Prelude.{ℕ, ◌+◌, ◌-◌, ◌^◌, Bool, cond, not, ◌&&◌, ◌||◌, Some, None, Option, ◌==◌, bit_or, nat_le, nat_lt}
use Rattle.plants.specs.Masks.{width}
use Rattle.plants.specs.Machine.{Machine, most_states, void}

-- A counter is void if its limit is 64 or more, or if it counts at all and its two events are equal or one is no event.
abbrev pub counts : ℕ → ℕ → ℕ → Bool
counts up down limit = limit == 0 || (nat_lt limit most_states && (not (up == down) && (nat_lt up width && nat_lt down width)))

-- up adds one below the limit, and down takes one above 0
abbrev pub count_step : ℕ → ℕ → ℕ → ℕ → ℕ → Option ℕ
count_step up down limit q e =
    cond (e == up && nat_lt q limit) (Some (q + 1)) (cond (e == down && (nat_le 1 q && nat_le q limit)) (Some (q - 1)) None)

-- its states are 0 to the limit, and with limit 0 it knows no event
abbrev pub counter : ℕ → ℕ → ℕ → Machine
counter up down limit =
    cond (counts up down limit)
    (record {
      count = limit + 1;
      first = 0;
      alphabet = cond (limit == 0) 0 (bit_or (2 ^ up) (2 ^ down));
      step = count_step up down limit;
    })
    void
