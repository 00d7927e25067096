-- Masks: a mask is a number whose bit k, worth 2 to the power k, says whether k belongs to a set.
-- Assumes nothing.
use Rattle.std.specs.Prelude.{ℕ, zero, suc, ◌+◌, ◌/◌, ◌%◌, ◌^◌, Bool, cond, ◌==◌}

-- how many events there are: an event is a number below it, and a mask of events has as many bits
abbrev pub width : ℕ
width = 32

-- k belongs to the set m
unfoldable pub bit : ℕ → ℕ → Bool
bit m k = m / 2 ^ k % 2 == 1

-- the set of the numbers below n that pass the test
unfoldable pub mask_of : ℕ → (ℕ → Bool) → ℕ
mask_of zero f = 0
mask_of (suc n) f = mask_of n f + cond (f n) (2 ^ n) 0
