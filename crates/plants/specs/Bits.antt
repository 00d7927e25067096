-- What the bits of a mask are: of the empty one, of one with a single event, of a union, and past a mask's end. Each is a
-- computation with quotients by powers of two, and the union goes bit by bit through the logic's `bit_or`. At the end, how a
-- mask is built from a test, one number after the other.
-- Assumes nothing.
use Rattle.std.specs.Prelude.{◌≡◌, ℕ, zero, suc, ◌+◌, ◌-◌, ◌*◌, ◌/◌, ◌%◌, ◌^◌, ◌<◌, ◌≤◌, Bool, true, false, cond, ◌||◌, ◌==◌, nat_eq, refl}
use Rattle.std.proofs.Common.{sym, ap, ◌∙◌, ⊎_elim, pow-suc, lt_of_lt_of_le, add-one, arith, pow_mono, pow_pos, pow-add, eq-eqb, ne_eqb}
use Rattle.std.proofs.Math.Nat.{zero-div, div-eq_of_lt, div_self, mul-mod_left}
use Rattle.std.specs.Int.Bits.{bit_or}
use Rattle.std.proofs.lemmas.Nat.{shl-shr, pow_below, mod_below, or_shr, or_mod}
use Rattle.std.proofs.lemmas.Bool.{cases_order}
use Rattle.plants.specs.Masks.{bit, mask_of}

pub bit_zero : (k : ℕ) → bit 0 k ≡ false
unfolding bit
bit_zero k = ap (λ q. nat_eq (q % 2) 1) (zero-div (2 ^ k))

-- a mask below 2 ^ k has no bit at or above k
pub bit_high : (m k j : ℕ) → m < 2 ^ k → k ≤ j → bit m j ≡ false
unfolding bit
bit_high m k j below above = ap (λ q. nat_eq (q % 2) 1) (div-eq_of_lt (lt_of_lt_of_le below (pow_mono above)))

bit_pow_low : (k j : ℕ) → j < k → bit (2 ^ k) j ≡ false
unfolding bit
bit_pow_low k j h =
    let d : ℕ = k - j - 1 in
    let split : k ≡ suc d + j = omega arith in
    let half : 2 ^ k / 2 ^ j ≡ 2 ^ d * 2 = ap (λ n. 2 ^ n / 2 ^ j) split ∙ ap (λ n. n / 2 ^ j) (pow-add 2 (suc d) j) ∙ shl-shr (2 ^ suc d) j ∙ pow-suc 2 d in
    ap (λ q. nat_eq (q % 2) 1) half ∙ ap (λ r. nat_eq r 1) (mul-mod_left (2 ^ d) 2)

bit_pow_same : (k : ℕ) → bit (2 ^ k) k ≡ true
unfolding bit
bit_pow_same k = ap (λ q. nat_eq (q % 2) 1) (div_self (pow_pos k))

-- the mask of k alone
pub bit_pow : (k j : ℕ) → bit (2 ^ k) j ≡ (j == k)
bit_pow k j =
    ⊎_elim (λ same. ap (bit (2 ^ k)) same ∙ bit_pow_same k ∙ sym (eq-eqb j k same))
    (λ apart.
    ⊎_elim (λ lower. bit_pow_low k j lower ∙ sym (ne_eqb j k (λ e. omega arith)))
    (λ above. bit_high (2 ^ k) (suc k) j (pow_below k (suc k) (omega arith)) above ∙ sym (ne_eqb j k (λ e. omega arith)))
    apart)
    (cases_order j k)

-- a remainder by two is 0 or 1
bits_or : (a b : ℕ) → a < 2 → b < 2 → (bit_or a b == 1) ≡ (a == 1 || b == 1)
bits_or zero zero ha hb = refl
bits_or zero (suc zero) ha hb = refl
bits_or zero (suc (suc b)) ha hb = absurd (omega arith)
bits_or (suc zero) zero ha hb = refl
bits_or (suc zero) (suc zero) ha hb = refl
bits_or (suc zero) (suc (suc b)) ha hb = absurd (omega arith)
bits_or (suc (suc a)) b ha hb = absurd (omega arith)

-- the union of two masks
pub bit-or : (a b k : ℕ) → bit (bit_or a b) k ≡ (bit a k || bit b k)
unfolding bit
bit-or a b k =
    ap (λ q. nat_eq (q % 2) 1) (or_shr a b k)
    ∙ ap (λ r. nat_eq r 1) (or_mod (a / 2 ^ k) (b / 2 ^ k) 1)
    ∙ bits_or (a / 2 ^ k % 2) (b / 2 ^ k % 2) (mod_below (a / 2 ^ k) 2 (omega arith)) (mod_below (b / 2 ^ k) 2 (omega arith))

-- the set of the numbers below n that pass a test, at none and at one more
pub mask_none : (f : ℕ → Bool) → mask_of 0 f ≡ 0
unfolding mask_of
mask_none f = refl

pub mask_more : (n : ℕ) (f : ℕ → Bool) (b : Bool) → f n ≡ b → mask_of (n + 1) f ≡ mask_of n f + cond b (2 ^ n) 0
unfolding mask_of
mask_more n f b is = ap (λ k. mask_of k f) (add-one n) ∙ ap (λ t. mask_of n f + cond t (2 ^ n) 0) is
