-- Every problem that exists means a sound set-up: its invariant says of masks what the laws say of sites and events. A mask
-- below 2 ^ E has no bit at or above E, an empty row none at all, and a mode bit stands in the union of the control rows, so
-- in one of them.
-- Assumes nothing.
use Rattle.std.proofs.Common.{◌≡◌, ℕ, zero, suc, ◌-◌, ◌^◌, ◌<◌, ◌≤◌, true, ◌&&◌, ◌||◌, leb, List, get_or, sym, ap, ◌∙◌, ⊎_elim, arith, eqb-true, le-leb, leb-true}
use lib.Bits.{bit_or}
use borrow.Author.Tests.{both_ways}
use Rattle.std.proofs.lemmas.Bool.{and_parts, cases_lt, or_cases}
use Rattle.plants.specs.Masks.{bit}
use Rattle.plants.specs.Bits.{bit_high, bit-or, bit_zero}
use Rattle.control.specs.Ranges.{Rows, in_rows, most_sites, union, within}
use Rattle.control.specs.Setup.{Sound}
use Rattle.control.specs.Problems.{row_bit, setup}
use Rattle.control.specs.declared.problem.Problem.{Problem}

-- a bit of a mask below 2 ^ k stands below k
pub bit_below : (m k e : ℕ) → m < 2 ^ k → bit m e ≡ true → e < k
bit_below m k e small is = ⊎_elim (λ h. h) (λ past. absurd (both_ways (bit m e) (bit_high m k e small past) is)) (cases_lt e k)

-- a bit in a row is one of a site and an event of the problem
in_range : (events sites : ℕ) (rows : List ℕ) → Rows events sites rows → (i e : ℕ) → row_bit rows i e ≡ true → (0 < i) × (i ≤ sites) × (e < events)
in_range events sites rows ok i e is =
    let (some, has) = and_parts (leb 1 i) (bit (get_or rows (i - 1) 0) e) is in
    let first = leb-true 1 i some in (
      first,
      ⊎_elim (λ past. absurd (both_ways (bit (get_or rows (i - 1) 0) e) (ap (λ m. bit m e) (ok.1 (i - 1) (omega arith)) ∙ bit_zero e) has)) (λ h. h) (cases_lt sites i),
      bit_below (get_or rows (i - 1) 0) events e (ok.0 (i - 1)) has,
    )

-- a bit of a union is one of its masks
union_part : (n : ℕ) (f : ℕ → ℕ) (e : ℕ) → bit (union n f) e ≡ true → (k : ℕ) × (bit (f k) e ≡ true)
union_part zero f e h = absurd (both_ways (bit 0 e) (bit_zero e) h)
union_part (suc n) f e h =
    ⊎_elim (union_part n f e) (λ here. (n, here)) (or_cases (bit (union n f) e) (bit (f n) e) (sym (bit-or (union n f) (f n) e) ∙ h))

-- a mode bit stands in some control row
chosen : (modes : ℕ) (rows : List ℕ) → within modes (in_rows rows) ≡ true → (e : ℕ) → bit modes e ≡ true → (i : ℕ) × (row_bit rows i e ≡ true)
chosen modes rows ok e is =
    let same = eqb-true (bit_or modes (in_rows rows)) (in_rows rows) ok in
    let joined : bit (in_rows rows) e ≡ true = sym (ap (λ m. bit m e) same) ∙ bit-or modes (in_rows rows) e ∙ ap (λ b. b || bit (in_rows rows) e) is in
    let (k, has) = union_part most_sites (λ k. get_or rows k 0) e joined in
    let back : suc k - 1 ≡ k = omega arith in
    (suc k, ap (λ b. b && bit (get_or rows (suc k - 1) 0) e) (le-leb 1 (suc k) (omega arith)) ∙ ap (λ n. bit (get_or rows n 0) e) back ∙ has)

pub setup_sound : (p : Problem) → Sound (setup p)
setup_sound p = record {
  some_event = p.counts.0;
  some_site = p.counts.2;
  seer = in_range p.events p.sites p.seen p.sights;
  controller = in_range p.events p.sites p.controlled p.controls;
  chosen = chosen p.modes p.controlled p.chosen;
}
