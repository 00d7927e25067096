-- What a test at each number below a bound finds, what a sum over them comes to, and the bits of a mask that is made from
-- a test. Each goes by induction on the bound. Assumes nothing.
use Rattle.std.proofs.Common.{◌≡◌, ℕ, zero, suc, ◌+◌, ◌-◌, ◌*◌, ◌/◌, ◌%◌, ◌^◌, ◌<◌, ◌≤◌, Bool, true, false, ◌&&◌, eqb, sym, refl, ap, ◌∙◌, subst, ⊎_elim, add-zero, pow-suc, div-one, arith, pow_pos, pow-add}
use native.Mathlib.Nat.{add-mul-div_right, add-mul-mod_self_right, div-eq_of_lt, add-div_right, two-pow-succ, div-div-eq-div-mul, pow-succ'}
use Rattle.std.proofs.lemmas.Bool.{false≢true, cases_Bool, cases_eq, cases_lt, both_ways, or_left, or_right, or_cases, and_from, and_parts, and_cases, cond_both}
use Rattle.std.proofs.lemmas.Bool.Decides.{nat_tests}
use Rattle.plants.specs.Masks.{bit, mask_of}
use Rattle.plants.specs.Ranges.{any, all, total}
use Rattle.plants.specs.Bits.{bit_high}

-- where a test fails and its first part passes, its second part fails
pub false_after : (a b : Bool) → a ≡ true → (a && b) ≡ false → b ≡ false
false_after a b pass fail = ⊎_elim (λ n. absurd (both_ways a n pass)) (λ n. n) (and_cases a b fail)

-- some number below n passes
pub any_from : (n : ℕ) (f : ℕ → Bool) (k : ℕ) → k < n → f k ≡ true → any n f ≡ true
unfolding any
any_from zero f k h pass = absurd (omega arith)
any_from (suc n) f k h pass =
    ⊎_elim (λ e. or_left (f n) (any n f) (ap f (sym e) ∙ pass)) (λ ne. or_right (f n) (any n f) (any_from n f k (omega arith) pass)) (cases_eq k n)

pub any_found : (n : ℕ) (f : ℕ → Bool) → any n f ≡ true → (k : ℕ) × (k < n) × (f k ≡ true)
unfolding any
any_found zero f h = absurd (false≢true h)
any_found (suc n) f h =
    ⊎_elim (λ pass. (n, omega arith, pass)) (λ rest. let (k, below, pass) = any_found n f rest in (k, omega arith, pass)) (or_cases (f n) (any n f) h)

pub any_none : (n : ℕ) (f : ℕ → Bool) → any n f ≡ false → (k : ℕ) → k < n → f k ≡ false
any_none n f h k below = ⊎_elim (λ pass. absurd (both_ways (any n f) h (any_from n f k below pass))) (λ fail. fail) (cases_Bool (f k))

-- each number below n passes
pub all_from : (n : ℕ) (f : ℕ → Bool) → ((k : ℕ) → k < n → f k ≡ true) → all n f ≡ true
unfolding all
all_from zero f h = refl
all_from (suc n) f h = and_from (f n) (all n f) (h n (omega arith)) (all_from n f (λ k below. h k (omega arith)))

pub all_at : (n : ℕ) (f : ℕ → Bool) → all n f ≡ true → (k : ℕ) → k < n → f k ≡ true
unfolding all
all_at zero f h k below = absurd (omega arith)
all_at (suc n) f h k below =
    let (here, rest) = and_parts (f n) (all n f) h in
    ⊎_elim (λ e. ap f e ∙ here) (λ ne. all_at n f rest k (omega arith)) (cases_eq k n)

-- sums of functions that agree below n
pub total_same : (n : ℕ) (f g : ℕ → ℕ) → ((k : ℕ) → k < n → f k ≡ g k) → total n f ≡ total n g
unfolding total
total_same zero f g h = refl
total_same (suc n) f g h = omega (arith, h n (omega arith), total_same n f g (λ k below. h k (omega arith)))

pub total_zero : (n : ℕ) (f : ℕ → ℕ) → ((k : ℕ) → k < n → f k ≡ 0) → total n f ≡ 0
unfolding total
total_zero zero f h = refl
total_zero (suc n) f h = omega (arith, h n (omega arith), total_zero n f (λ k below. h k (omega arith)))

pub total_le : (n : ℕ) (f g : ℕ → ℕ) → ((k : ℕ) → k < n → f k ≤ g k) → total n f ≤ total n g
unfolding total
total_le zero f g h = omega arith
total_le (suc n) f g h = omega (arith, h n (omega arith), total_le n f g (λ k below. h k (omega arith)))

pub total_lt : (n : ℕ) (f g : ℕ → ℕ) → ((k : ℕ) → k < n → f k ≤ g k) → (j : ℕ) → j < n → f j < g j → total n f < total n g
unfolding total
total_lt zero f g h j below less = absurd (omega arith)
total_lt (suc n) f g h j below less =
    ⊎_elim
    (λ e.
    let last : f n < g n = subst (λ k. f k < g k) e less in
    omega (arith, total_le n f g (λ k low. h k (omega arith))))
    (λ ne. omega (arith, h n (omega arith), total_lt n f g (λ k low. h k (omega arith)) j (omega arith) less))
    (cases_eq j n)

-- a sum of numbers that are at most 1
pub total_at_most : (n : ℕ) (f : ℕ → ℕ) → ((k : ℕ) → f k ≤ 1) → total n f ≤ n
unfolding total
total_at_most zero f h = omega arith
total_at_most (suc n) f h = omega (arith, h n, total_at_most n f h)

-- g is one more than f at j, and as f elsewhere
pub total_one_more : (n : ℕ) (f g : ℕ → ℕ) (j : ℕ) → j < n → g j ≡ suc (f j) → ((k : ℕ) → (k ≡ j → ⊥) → g k ≡ f k) → total n g ≡ suc (total n f)
unfolding total
total_one_more zero f g j below one others = absurd (omega arith)
total_one_more (suc n) f g j below one others =
    ⊎_elim
    (λ e.
    let last : g n ≡ suc (f n) = ap g (sym e) ∙ one ∙ ap (λ k. suc (f k)) e in
    let front = total_same n g f (λ k low. others k (λ same. omega arith)) in
    omega arith)
    (λ ne.
    let last = others n (λ same. ne (sym same)) in
    let front = total_one_more n f g j (omega arith) one others in
    omega arith)
    (cases_eq j n)

-- a bit at or above n adds nothing below n
bit_add : (m n k : ℕ) → k < n → bit (m + 2 ^ n) k ≡ bit m k
unfolding bit
bit_add m n k h =
    let d : ℕ = n - k - 1 in
    let split : n ≡ suc d + k = omega arith in
    let power : 2 ^ n ≡ 2 ^ d * 2 * 2 ^ k = ap (λ j. 2 ^ j) split ∙ pow-add 2 (suc d) k ∙ ap (λ p. p * 2 ^ k) (pow-suc 2 d) in
    ap (λ p. eqb ((m + p) / 2 ^ k % 2) 1) power
    ∙ ap (λ q. eqb (q % 2) 1) (add-mul-div_right m (2 ^ d * 2) (pow_pos k))
    ∙ ap (λ r. eqb r 1) (add-mul-mod_self_right (m / 2 ^ k) (2 ^ d) 2)

bit_top : (m n : ℕ) → m < 2 ^ n → bit (m + 2 ^ n) n ≡ true
unfolding bit
bit_top m n h =
    ap (λ q. eqb (q % 2) 1) (add-div_right m (pow_pos n) ∙ ap (λ q. q + 1) (div-eq_of_lt h))

-- the mask of the numbers below n that pass
pub mask_below : (n : ℕ) (f : ℕ → Bool) → mask_of n f < 2 ^ n
unfolding mask_of
mask_below zero f = omega arith
mask_below (suc n) f =
    let double = two-pow-succ n in
    let front = mask_below n f in
    cond_both (f n) (2 ^ n) 0 (λ p. mask_of n f + p < 2 ^ suc n) (λ pass. omega arith) (λ fail. omega arith)

pub mask_bit : (n : ℕ) (f : ℕ → Bool) (k : ℕ) → k < n → bit (mask_of n f) k ≡ f k
unfolding mask_of
mask_bit zero f k h = absurd (omega arith)
mask_bit (suc n) f k h =
    cond_both (f n) (2 ^ n) 0 (λ p. bit (mask_of n f + p) k ≡ f k)
    (λ pass.
    ⊎_elim (λ e. ap (bit (mask_of n f + 2 ^ n)) e ∙ bit_top (mask_of n f) n (mask_below n f) ∙ sym (ap f e ∙ pass))
    (λ ne. bit_add (mask_of n f) n k (omega arith) ∙ mask_bit n f k (omega arith))
    (cases_eq k n))
    (λ fail.
    rw add-zero
    (⊎_elim (λ e. bit_high (mask_of n f) n k (mask_below n f) (omega arith) ∙ sym (ap f e ∙ fail))
    (λ ne. mask_bit n f k (omega arith))
    (cases_eq k n)))

pub mask_past : (n : ℕ) (f : ℕ → Bool) (k : ℕ) → n ≤ k → bit (mask_of n f) k ≡ false
mask_past n f k h = bit_high (mask_of n f) n k (mask_below n f) h

-- a member is below n and passes
pub mask_member : (n : ℕ) (f : ℕ → Bool) (k : ℕ) → bit (mask_of n f) k ≡ true → (k < n) × (f k ≡ true)
mask_member n f k h =
    ⊎_elim (λ low. (low, sym (mask_bit n f k low) ∙ h)) (λ high. absurd (both_ways (bit (mask_of n f) k) (mask_past n f k high) h)) (cases_lt k n)

bit_half : (m k : ℕ) → bit (m / 2) k ≡ bit m (suc k)
unfolding bit
bit_half m k = ap (λ q. eqb (q % 2) 1) (div-div-eq-div-mul m 2 (2 ^ k) ∙ ap (λ p. m / p) (sym (pow-succ' 2 k)))

bit_low : (m : ℕ) → bit m 0 ≡ eqb (m % 2) 1
unfolding bit
bit_low m = ap (λ q. eqb (q % 2) 1) (div-one m)

-- masks below 2 ^ n with equal bits are equal
pub masks_equal : (n a b : ℕ) → a < 2 ^ n → b < 2 ^ n → ((k : ℕ) → k < n → bit a k ≡ bit b k) → a ≡ b
masks_equal zero a b ha hb same = omega arith
masks_equal (suc n) a b ha hb same =
    let double = pow-suc 2 n in
    let halves = masks_equal n (a / 2) (b / 2) (omega arith) (omega arith) (λ k low. bit_half a k ∙ same (suc k) (omega arith) ∙ sym (bit_half b k)) in
    let odd : eqb (a % 2) 1 ≡ eqb (b % 2) 1 = sym (bit_low a) ∙ same 0 (omega arith) ∙ bit_low b in
    grind (arith, nat_tests)

-- one number that fails, and none that passes
pub all_broken : (n : ℕ) (f : ℕ → Bool) (k : ℕ) → k < n → f k ≡ false → all n f ≡ false
all_broken n f k low fails = ⊎_elim (λ t. absurd (both_ways (f k) fails (all_at n f t k low))) (λ h. h) (cases_Bool (all n f))

pub any_nowhere : (n : ℕ) (f : ℕ → Bool) → ((k : ℕ) → k < n → f k ≡ false) → any n f ≡ false
any_nowhere n f fails = ⊎_elim (λ t. let (k, low, passes) = any_found n f t in absurd (both_ways (f k) (fails k low) passes)) (λ h. h) (cases_Bool (any n f))
