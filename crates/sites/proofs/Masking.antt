-- How a mask of events is built, one event after the other, as votes and fusion build theirs: there is room for each, and
-- one event more makes the mask of one event more. Assumes nothing.
use Rattle.std.proofs.Common.{◌≡◌, ℕ, ◌+◌, ◌*◌, ◌%◌, ◌^◌, ◌<◌, ◌≤◌, Bool, true, false, arith, pow_mono}
use Rattle.std.proofs.lemmas.Nat.{one_shl}
use Rattle.plants.specs.Masks.{mask_of}
use Rattle.plants.specs.Bits.{mask_more}
use Rattle.plants.proofs.Ranges.{mask_below}

module _ (e : ℕ) (f : ℕ → Bool) (m : ℕ) (few : e < 32) (so_far : m ≡ mask_of e f) where
  pub fits : m + 1 * 2 ^ e % 2 ^ 32 < 2 ^ 32
  fits =
      let half : 2 ^ e ≤ 2 ^ 31 = pow_mono {j = 31} (omega arith) in
      omega (arith, mask_below e f, one_shl e 32 few)

  pub with_event : f e ≡ true → m + 1 * 2 ^ e % 2 ^ 32 ≡ mask_of (e + 1) f
  with_event is = omega (arith, mask_more e f true is, one_shl e 32 few)

  pub without_event : f e ≡ false → m ≡ mask_of (e + 1) f
  without_event is = omega (arith, mask_more e f false is)
