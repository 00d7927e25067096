-- `any` and `all` over a range of numbers, as tests of the numbers below its end, and what a range with its end yields.
-- Assumes nothing.
use Rattle.std.proofs.Common.{◌≡◌, ℕ, zero, suc, ◌+◌, ◌-◌, ◌<◌, ◌≤◌, Bool, true, false, List, Option, MatchOption, sym, refl, ◌∙◌, ap, subst, ⊎_elim, arith}
use denote.Param.Members.{Mut}
use Rattle.std.proofs.iter.Yields.{nat_range_steps}
use Rattle.std.proofs.iter.runs.Sources.{nat_range_inclusive_steps}
use Rattle.std.proofs.lemmas.Bool.{cases_Bool, cases_eq, both_ways, or_left, or_right, or_cases, and_from, and_parts}
use Rattle.std.proofs.lemmas.Iterator.{YieldsList, YieldsList-from_range}
use Rattle.std.proofs.lemmas.Iterator.Search.{any_from_yields_List, all_from_yields_List}
use Rattle.std.specs.declared.ops.Range.{Range}
use Rattle.std.specs.declared.ops.RangeInclusive.{RangeInclusive}
use Rattle.std.specs.Fn.{Called}
use Rattle.std.specs.Iterator.{AlwaysYields, YieldsThen}
use Rattle.std.specs.List.{FoldsTo, list_any, list_all, range_with_len}
use Rattle.std.specs.Range.{range_inclusive_len, range_inclusive_start, range_inclusive_end, range_inclusive_exhausted}
use Rattle.plants.specs.Ranges.{any, all}
use Rattle.plants.proofs.Ranges.{any_from, any_found, all_from, all_at}
use Rattle.sites.proofs.Sets.{same_test}

-- some number of a list that counts up passes a test, or each does
some_in : (test : ℕ → Bool) (n a : ℕ) → list_any test (range_with_len a n) ≡ true → (k : ℕ) × (a ≤ k) × (k < a + n) × (test k ≡ true)
some_in test zero a h = absurd (both_ways false refl h)
some_in test (suc n) a h =
    ⊎_elim
    (λ here. (a, omega arith, omega arith, here))
    (λ further. let (k, low, high, is) = some_in test n (a + 1) further in (k, omega arith, omega arith, is))
    (or_cases (test a) _ h)

in_some : (test : ℕ → Bool) (n a k : ℕ) → a ≤ k → k < a + n → test k ≡ true → list_any test (range_with_len a n) ≡ true
in_some test zero a k low high is = absurd (omega arith)
in_some test (suc n) a k low high is =
    ⊎_elim
    (λ same. or_left (test a) _ (subst (λ j. test j ≡ true) (sym same) is))
    (λ apart. or_right (test a) _ (in_some test n (a + 1) k (omega arith) (omega arith) is))
    (cases_eq a k)

each_in : (test : ℕ → Bool) (n a : ℕ) → list_all test (range_with_len a n) ≡ true → (k : ℕ) → a ≤ k → k < a + n → test k ≡ true
each_in test zero a h k low high = absurd (omega arith)
each_in test (suc n) a h k low high =
    let (here, further) = and_parts (test a) _ h in
    ⊎_elim (λ same. subst (λ j. test j ≡ true) same here) (λ apart. each_in test n (a + 1) further k (omega arith) (omega arith)) (cases_eq a k)

in_each : (test : ℕ → Bool) (n a : ℕ) → ((k : ℕ) → a ≤ k → k < a + n → test k ≡ true) → list_all test (range_with_len a n) ≡ true
in_each test zero a h = refl
in_each test (suc n) a h = and_from (test a) _ (h a (omega arith) (omega arith)) (in_each test n (a + 1) (λ k low high. h k (omega arith) (omega arith)))

any_range : (test : ℕ → Bool) (n : ℕ) → list_any test (range_with_len 0 n) ≡ any n test
any_range test n =
    same_test _ _
    (λ h. let (k, low, high, is) = some_in test n 0 h in any_from n test k (omega arith) is)
    (λ h. let (k, low, is) = any_found n test h in in_some test n 0 k (omega arith) (omega arith) is)

-- from 1 on, of a test that 0 fails, or passes
any_sites : (test : ℕ → Bool) (n : ℕ) → test 0 ≡ false → list_any test (range_with_len 1 n) ≡ any (suc n) test
any_sites test n none =
    same_test _ _
    (λ h. let (k, low, high, is) = some_in test n 1 h in any_from (suc n) test k (omega arith) is)
    (λ h. let (k, low, is) = any_found (suc n) test h in
    in_some test n 1 k (⊎_elim (λ z. absurd (both_ways (test k) (subst (λ j. test j ≡ false) (sym z) none) is)) (λ apart. omega arith) (cases_eq k 0)) (omega arith) is)

all_sites : (test whole : ℕ → Bool) (n : ℕ) → whole 0 ≡ true → ((k : ℕ) → 0 < k → test k ≡ whole k) → list_all test (range_with_len 1 n) ≡ all (suc n) whole
all_sites test whole n first same =
    same_test _ _
    (λ h. all_from (suc n) whole (λ k low. ⊎_elim (λ z. subst (λ j. whole j ≡ true) (sym z) first) (λ apart. sym (same k (omega arith)) ∙ each_in test n 1 h k (omega arith) (omega arith)) (cases_eq k 0)))
    (λ h. in_each test n 1 (λ k low high. same k (omega arith) ∙ all_at (suc n) whole h k (omega arith)))

-- what `1..=n` yields
counts_up : (n a : ℕ) (s : RangeInclusive ℕ) → range_inclusive_len (λ x y. y - x) (range_inclusive_start s) (range_inclusive_end s) (range_inclusive_exhausted s) ≡ n → (range_inclusive_exhausted s ≡ false → range_inclusive_start s ≡ a) → AlwaysYields nat_range_inclusive_steps (λ x. x) s (range_with_len a n)
counts_up zero a s long at = λ x j step. absurd (omega (arith, step.1.1, long))
counts_up (suc n) a s long at =
    let fresh : range_inclusive_exhausted s ≡ false = ⊎_elim (λ spent. absurd (omega (arith, long, ap (range_inclusive_len (λ x y. y - x) (range_inclusive_start s) (range_inclusive_end s)) spent))) (λ f. f) (cases_Bool (range_inclusive_exhausted s)) in (
      λ j step. absurd (omega (arith, step.1.0, long)),
      λ x j step. (step.1.0 ∙ at fresh, counts_up n (a + 1) j (omega (arith, step.1.1, long)) (λ go. step.1.2 go ∙ ap (λ k. k + 1) (at fresh))),
    )

inclusive_yields : (n : ℕ) (s : RangeInclusive ℕ) → range_inclusive_start s ≡ 1 → range_inclusive_end s ≡ n → range_inclusive_exhausted s ≡ false → YieldsList nat_range_inclusive_steps (λ x. x) s (range_with_len 1 n)
inclusive_yields n s from to fresh = record { runs = counts_up n 1 s (ap (range_inclusive_len (λ x y. y - x) (range_inclusive_start s) (range_inclusive_end s)) fresh ∙ omega (arith, from, to)) (λ go. from) }

module _ {F : Type 0} {g : Mut F (ℕ × Unit {0}) Bool} (test : ℕ → Bool) (n : ℕ) (f : F) (r : Bool) where
  pub any_below : (s u : Range ℕ) → (xs : List ℕ) × (o : Option ℕ) × (j : F) × YieldsThen nat_range_steps s xs o u × FoldsTo (λ p x q. Called g p (x, tt) false q) f xs j × MatchOption o (r ≡ false) (λ x. (r ≡ true) × ((h : F) × Called g j (x, tt) true h))
      → s ≡ record { start = 0; end = n } → ((x : ℕ) (b : Bool) (q : F) → Called g f (x, tt) b q → (q ≡ f) × (b ≡ test x)) → r ≡ any n test
  any_below s u ran is says = any_from_yields_List test u f r ran (YieldsList-from_range 0 n n is (omega arith)) says ∙ any_range test n

  -- the same over the sites, 1 to n
  pub any_site : (s u : RangeInclusive ℕ) → (xs : List ℕ) × (o : Option ℕ) × (j : F) × YieldsThen nat_range_inclusive_steps s xs o u × FoldsTo (λ p x q. Called g p (x, tt) false q) f xs j × MatchOption o (r ≡ false) (λ x. (r ≡ true) × ((h : F) × Called g j (x, tt) true h))
      → range_inclusive_start s ≡ 1 → range_inclusive_end s ≡ n → range_inclusive_exhausted s ≡ false → test 0 ≡ false → ((x : ℕ) (b : Bool) (q : F) → Called g f (x, tt) b q → (q ≡ f) × (b ≡ test x)) → r ≡ any (suc n) test
  any_site s u ran from to fresh none says = any_from_yields_List test u f r ran (inclusive_yields n s from to fresh) says ∙ any_sites test n none

  pub all_site : (whole : ℕ → Bool) (s u : RangeInclusive ℕ) → (xs : List ℕ) × (o : Option ℕ) × (j : F) × YieldsThen nat_range_inclusive_steps s xs o u × FoldsTo (λ p x q. Called g p (x, tt) true q) f xs j × MatchOption o (r ≡ true) (λ x. (r ≡ false) × ((h : F) × Called g j (x, tt) false h))
      → range_inclusive_start s ≡ 1 → range_inclusive_end s ≡ n → range_inclusive_exhausted s ≡ false → whole 0 ≡ true → ((k : ℕ) → 0 < k → test k ≡ whole k) → ((x : ℕ) (b : Bool) (q : F) → Called g f (x, tt) b q → (q ≡ f) × (b ≡ test x)) → r ≡ all (suc n) whole
  all_site whole s u ran from to fresh first same says = all_from_yields_List test u f r ran (inclusive_yields n s from to fresh) says ∙ all_sites test whole n first same
