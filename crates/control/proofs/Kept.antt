-- What the tests of `make` give of the rows that it keeps: a test of four rows tells of every place, since past them there
-- is nothing, and a row past the site count is empty.
-- Assumes nothing.
use Rattle.std.proofs.Common.{◌≡◌, ℕ, zero, suc, ◌-◌, ◌^◌, ◌<◌, ◌≤◌, true, false, ◌&&◌, leb, List, [], ◌∷◌, get_or, refl, ap, ◌∙◌, arith, pow_pos}
use mathlib.Core.Path.{subst⁻¹}
use Rattle.std.proofs.Math.Bool.{and-false}
use Rattle.std.proofs.lemmas.Bool.Decides.{nat_tests}
use Rattle.plants.specs.Masks.{bit}
use Rattle.plants.specs.Bits.{bit_zero}
use Rattle.control.specs.Ranges.{Rows}
use Rattle.control.specs.Problems.{kept_rows, masks_below, rows_below, row_bit}

rows_at : (events a b c d k : ℕ) → rows_below events (a ∷ b ∷ c ∷ d ∷ []) ≡ true → get_or (a ∷ b ∷ c ∷ d ∷ []) k 0 < 2 ^ events
rows_at events a b c d zero h = grind (arith, nat_tests)
rows_at events a b c d (suc zero) h = grind (arith, nat_tests)
rows_at events a b c d (suc (suc zero)) h = grind (arith, nat_tests)
rows_at events a b c d (suc (suc (suc zero))) h = grind (arith, nat_tests)
rows_at events a b c d (suc (suc (suc (suc k)))) h = pow_pos events

dropped : (sites : ℕ) (rows : List ℕ) (k : ℕ) → sites ≤ k → get_or (kept_rows sites rows) k 0 ≡ 0
dropped sites rows zero h = grind (arith, nat_tests)
dropped sites rows (suc zero) h = grind (arith, nat_tests)
dropped sites rows (suc (suc zero)) h = grind (arith, nat_tests)
dropped sites rows (suc (suc (suc zero))) h = grind (arith, nat_tests)
dropped sites rows (suc (suc (suc (suc k)))) h = refl

pub kept_in_range : (events sites : ℕ) (rows r : List ℕ) → r ≡ kept_rows sites rows → rows_below events r ≡ true → Rows events sites r
kept_in_range events sites rows r is h =
    let below : rows_below events (kept_rows sites rows) ≡ true = rw is at h in
    subst⁻¹ (Rows events sites) is (λ k. rows_at events _ _ _ _ k below, dropped sites rows)

pub masks_told : (events modes : ℕ) (seen controlled : List ℕ) → masks_below events modes seen controlled ≡ true → (modes < 2 ^ events) × (rows_below events seen ≡ true) × (rows_below events controlled ≡ true)
masks_told events modes seen controlled h = (grind (arith, nat_tests), grind (arith, nat_tests), grind (arith, nat_tests))

-- a site whose row is empty has no event in it
pub no_bit : (rows : List ℕ) (i e : ℕ) → get_or rows (i - 1) 0 ≡ 0 → row_bit rows i e ≡ false
no_bit rows i e empty = ap (λ m. leb 1 i && bit m e) empty ∙ ap (λ b. leb 1 i && b) (bit_zero e) ∙ and-false (leb 1 i)
