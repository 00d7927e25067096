-- A trace of which at most the first n records are lent: what is lent is its front of n records, and when it comes back the
-- rest is as it was. Assumes nothing.
use Rattle.std.proofs.Common.{◌≡◌, ℕ, ◌<◌, ◌≤◌, min, List, ◌++◌, length, take, drop, sym, ap, ◌∙◌, ⊎_elim, arith, take_all}
use native.Mathlib.Nat.{min-eq_left, min-eq_right}
use Rattle.std.proofs.lemmas.List.{append-nil, drop_at, drop_all, length-take-le, take_at, take_min}
use Rattle.std.proofs.Math.Nat.{min_comm}
use Rattle.std.proofs.lemmas.Bool.{cases_lt}

module _ {A : Type 0} (n k : ℕ) (xs ys : List A) (used : k ≡ min (length xs) n) (long : length ys ≡ length (take k xs)) where
  -- a longer list is lent to n, and any other whole
  cut : n < length xs → k ≡ n
  cut more = used ∙ min-eq_right {n = n} {m = length xs} (omega arith)

  whole : length xs ≤ n → k ≡ length xs
  whole fewer = used ∙ min-eq_left {n = length xs} {m = n} fewer

  cut_length : n < length xs → length ys ≡ n
  cut_length more = long ∙ ap (λ m. length (take m xs)) (cut more) ∙ length-take-le n xs (omega arith)

  nothing_left : length xs ≤ n → ys ++ drop k xs ≡ ys
  nothing_left fewer = ap (λ l. ys ++ l) (drop_all k xs (omega (arith, whole fewer))) ∙ append-nil ys

  whole_length : length xs ≤ n → length ys ≤ n
  whole_length fewer = omega (arith, long, ap length (take_all k xs (omega (arith, whole fewer))))

  pub lent : take k xs ≡ take n xs
  lent = ap (λ m. take m xs) (used ∙ min_comm (length xs) n) ∙ take_min n xs

  pub front : take n (ys ++ drop k xs) ≡ ys
  front =
      ⊎_elim (λ more. take_at ys (drop k xs) n (cut_length more)) (λ fewer. ap (take n) (nothing_left fewer) ∙ take_all n ys (whole_length fewer)) (cases_lt n (length xs))

  pub past : drop n (ys ++ drop k xs) ≡ drop n xs
  past =
      ⊎_elim (λ more. drop_at ys (drop k xs) n (cut_length more) ∙ ap (λ m. drop m xs) (cut more))
      (λ fewer. ap (drop n) (nothing_left fewer) ∙ drop_all n ys (whole_length fewer) ∙ sym (drop_all n xs fewer))
      (cases_lt n (length xs))
