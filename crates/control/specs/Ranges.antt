-- The ranges that every problem keeps, over its numbers and masks. Assumes nothing.
use Rattle.std.specs.Prelude.{◌≡◌, ℕ, zero, suc, ◌^◌, ◌<◌, ◌≤◌, Bool, List, ◌==◌, bit_or, slice_index}
use Rattle.plants.specs.Masks.{width}

-- how many sites there may be
abbrev pub most_sites : ℕ
most_sites = 4

-- the union of the first n masks
abbrev pub union : ℕ → (ℕ → ℕ) → ℕ
union zero f = 0
union (suc n) f = bit_or (union n f) (f n)

-- 1 to 32 events and 1 to 4 sites
abbrev pub Counts : ℕ → ℕ → Type 0
Counts events sites = (1 ≤ events) × (events ≤ width) × (1 ≤ sites) × (sites ≤ most_sites)

-- no row has a bit at or above the event count, since a mask below 2 ^ events has none, and a row past the site count is empty
abbrev pub Rows : ℕ → ℕ → List ℕ → Type 0
Rows events sites rows = ((k : ℕ) → slice_index rows k < 2 ^ events) × ((k : ℕ) → sites ≤ k → slice_index rows k ≡ 0)

-- the events that some row has
abbrev pub in_rows : List ℕ → ℕ
in_rows rows = union most_sites (λ k. slice_index rows k)

-- the mask m adds nothing to the mask n
abbrev pub within : ℕ → ℕ → Bool
within m n = bit_or m n == n
