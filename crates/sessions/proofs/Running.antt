-- What every history keeps. In a session that was opened the counts are those of the system, no event has a
-- counterexample, the plant stands where the accepted events lead, each site's estimate is the one for what it was shown, each
-- ballot is the vote at that estimate, and a settled round holds what fusion makes of the ballots. A closed session has no
-- accepted event. Each call keeps this: a refused one trivially, a granted one by what its gates say.
-- Assumes nothing.
use Rattle.std.proofs.Common.{◌≡◌, ℕ, suc, ◌<◌, ◌≤◌, Bool, true, false, ◌||◌, eqb, List, [], length, is_some, Some, None, Option, unwrap_or, sym, refl, ap, ◌∙◌, ⊎_elim, arith}
use Rattle.std.proofs.lemmas.Bool.{cases_Bool, both_ways, or_cases, eqb-true}
use Rattle.plants.specs.Masks.{bit}
use Rattle.plants.proofs.Ranges.{all_at, mask_bit}
use Rattle.control.specs.Strings.{Follows, Legal, sight}
use Rattle.control.specs.Systems.{System, Keeps}
use Rattle.theory.specs.Counterexamples.{Counterexample}
use Rattle.theory.specs.Estimates.{estimate, vote, votes}
use Rattle.theory.specs.Rules.{fusion}
use Rattle.theory.proofs.Fusion.{conjunctive_from, conjunctive_each, disjunctive_from, disjunctive_some}
use Rattle.sites.specs.Sites.{vote_mask}
use Rattle.sessions.specs.Calls.{site, same_counts, has_voted, all_voted, said, fused, settled_in, allowed_in}
use Rattle.sessions.specs.Status.{Status}

-- an opened session, where u are the accepted events
pub record Running (w : System) (u : List ℕ) (s : Status) : Type 0 where
  pub counts : same_counts w s ≡ true
  pub clear : (e : ℕ) → Counterexample w e → ⊥
  pub four : length s.sites ≡ 4
  pub state : Follows w u s.state
  pub legal : Legal w u
  pub estimates : (i : ℕ) → 0 < i → i ≤ 4 → (site s i).estimate ≡ estimate w i (sight w.setup i u)
  pub ballots : (i : ℕ) → 0 < i → i ≤ 4 → (v : ℕ) → (site s i).ballot ≡ Some v → v ≡ vote_mask w i (site s i).estimate
  pub voted : settled_in s.round ≡ true → all_voted w s ≡ true
  pub allowed : settled_in s.round ≡ true → allowed_in s.round ≡ fused w s

-- any session, where u are the accepted events and b says whether the round is settled
pub record Kept (w : System) (u : List ℕ) (b : Bool) (s : Status) : Type 0 where
  pub rounds : b ≡ settled_in s.round
  pub idle : s.started ≡ false → (u ≡ []) × (b ≡ false)
  pub running : s.started ≡ true → Running w u s

-- fusion asks only the controllers
pub fusion_same : (w : System) → Keeps w → (e : ℕ) (f g : ℕ → Bool) → ((i : ℕ) → w.setup.controls i e ≡ true → f i ≡ g i) → fusion w.setup e f ≡ true → fusion w.setup e g ≡ true
fusion_same w keeps e f g same ok =
    ⊎_elim
    (λ kind. let (i, c, says) = disjunctive_some w.setup keeps.setup e f kind ok in disjunctive_from w.setup keeps.setup e g kind i c (sym (same i c) ∙ says))
    (λ kind. conjunctive_from w.setup keeps.setup e g kind (λ i c. sym (same i c) ∙ conjunctive_each w.setup keeps.setup e f kind ok i c))
    (cases_Bool (w.setup.disjunctive e))

-- a ballot that was cast
cast : (o : Option ℕ) → is_some o ≡ true → o ≡ Some (unwrap_or o 0)
cast (Some v) is = refl
cast None is = absurd (both_ways false refl is)

module _ (w : System) (keeps : Keeps w) (few : w.setup.sites ≤ 4) {u : List ℕ} {s : Status} (run : Running w u s) (round : settled_in s.round ≡ true) where
  -- on a settled round each controller said what its vote is after what it was shown
  said_vote : (e : ℕ) → e < w.setup.events → (i : ℕ) → w.setup.controls i e ≡ true → said s i e ≡ votes w i (sight w.setup i u) e
  said_vote e below i c =
      let range = keeps.setup.controller i e c in
      let here : i < suc w.setup.sites = omega (arith, range.1) in
      let has : has_voted s i ≡ true = ⊎_elim (λ zeroth. absurd (omega (arith, range.0, eqb-true i 0 zeroth))) (λ t. t) (or_cases (eqb i 0) (has_voted s i) (all_at (suc w.setup.sites) (λ j. eqb j 0 || has_voted s j) (run.voted round) i here)) in
      let small : i ≤ 4 = omega (arith, range.1) in
      let ballot = run.ballots i range.0 small (unwrap_or (site s i).ballot 0) (cast (site s i).ballot has) in
      ap (λ m. bit m e) ballot
      ∙ mask_bit w.setup.events (vote w i (site s i).estimate) e below
      ∙ ap (λ m. vote w i m e) (run.estimates i range.0 small)

  -- so what the round allows is what fusion makes of the votes
  pub allows : (e : ℕ) → e < w.setup.events → bit (allowed_in s.round) e ≡ true → fusion w.setup e (λ i. votes w i (sight w.setup i u) e) ≡ true
  allows e below is =
      let fusing = sym (mask_bit w.setup.events (λ d. fusion w.setup d (λ i. said s i d)) e below) ∙ sym (ap (λ m. bit m e) (run.allowed round)) ∙ is in
      fusion_same w keeps e (λ i. said s i e) (λ i. votes w i (sight w.setup i u) e) (said_vote e below) fusing

  pub allowed_from : (e : ℕ) → e < w.setup.events → fusion w.setup e (λ i. votes w i (sight w.setup i u) e) ≡ true → bit (allowed_in s.round) e ≡ true
  allowed_from e below ok =
      let fusing = fusion_same w keeps e (λ i. votes w i (sight w.setup i u) e) (λ i. said s i e) (λ i c. sym (said_vote e below i c)) ok in
      ap (λ m. bit m e) (run.allowed round) ∙ mask_bit w.setup.events (λ d. fusion w.setup d (λ i. said s i d)) e below ∙ fusing
