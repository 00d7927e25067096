-- Digits, and the numbers that they write: two digits to a byte, a mask as four bytes, the highest first. Assumes nothing.
use Rattle.std.specs.Prelude.{ℕ, ◌+◌, ◌-◌, ◌*◌, Bool, cond, ◌&&◌, List, is_some, Some, None, Option, nat_le, slice_index}
use Rattle.std.specs.Option.{unwrap_or}

-- the value of the characters 0 to 9, which have the codes 48 to 57, and A to F, which have 65 to 70
abbrev pub digit_of : ℕ → Option ℕ
digit_of c = cond (nat_le 48 c && nat_le c 57) (Some (c - 48)) (cond (nat_le 65 c && nat_le c 70) (Some (c - 55)) None)

abbrev pub digital : ℕ → Bool
digital c = is_some (digit_of c)

-- the value of the digit at a place
abbrev pub nibble_at : List ℕ → ℕ → ℕ
nibble_at ds k = unwrap_or (digit_of (slice_index ds k)) 0

-- the byte that the two digits from a place on write
unfoldable pub pair_at : List ℕ → ℕ → ℕ
pair_at ds k = 16 * nibble_at ds k + nibble_at ds (k + 1)

-- byte k of what the digits write
abbrev pub byte_at : List ℕ → ℕ → ℕ
byte_at ds k = pair_at ds (2 * k)

-- the mask that begins at byte k
abbrev pub mask_at : List ℕ → ℕ → ℕ
mask_at ds k =
    16777216 * byte_at ds k + (65536 * byte_at ds (k + 1) + (256 * byte_at ds (k + 2) + byte_at ds (k + 3)))
