-- What a problem means, and what holds of that meaning. Assumes nothing.
use Rattle.std.specs.Prelude.{◌≡◌, ℕ, ◌<◌, ◌≤◌, Bool, true}

-- A problem means: how many events and sites there are, which site sees and which controls which event, and which events
-- are disjunctive; the others are conjunctive. Events are numbered from 0 and sites from 1.
pub record Setup : Type 0 where
  pub events : ℕ
  pub sites : ℕ
  pub sees : ℕ → ℕ → Bool
  pub controls : ℕ → ℕ → Bool
  pub disjunctive : ℕ → Bool

-- What every problem keeps: only its sites see and control, only its events are seen, controlled and disjunctive, and
-- only where some site controls an event is it disjunctive. An event that no site controls is uncontrollable.
pub record Sound (p : Setup) : Type 0 where
  pub some_event : 0 < p.events
  pub some_site : 0 < p.sites
  pub seer : (i e : ℕ) → p.sees i e ≡ true → (0 < i) × (i ≤ p.sites) × (e < p.events)
  pub controller : (i e : ℕ) → p.controls i e ≡ true → (0 < i) × (i ≤ p.sites) × (e < p.events)
  pub chosen : (e : ℕ) → p.disjunctive e ≡ true → (i : ℕ) × (p.controls i e ≡ true)
