-- What a plant means, and the laws of that meaning. Assumes nothing.
use Rattle.std.specs.Prelude.{◌≡◌, ℕ, ◌<◌, ◌≤◌, true, Some, None, Option}
use Rattle.plants.specs.Masks.{bit}

-- how many states a plant may have
abbrev pub most_states : ℕ
most_states = 64

-- A plant means: how many states it has, its first state, the events that it knows, as a mask, and for a state and an
-- event either no step or the next state.
pub record Machine : Type 0 where
  pub count : ℕ
  pub first : ℕ
  pub alphabet : ℕ
  pub step : ℕ → ℕ → Option ℕ

-- The laws. A machine with no states is void: it has first state 0, an empty alphabet and, by the last three, no steps.
pub record Lawful (m : Machine) : Type 0 where
  pub few : m.count ≤ most_states
  pub void_first : m.count ≡ 0 → m.first ≡ 0
  pub void_alphabet : m.count ≡ 0 → m.alphabet ≡ 0
  pub first_within : 0 < m.count → m.first < m.count
  pub from_within : (q e r : ℕ) → m.step q e ≡ Some r → q < m.count
  pub on_known : (q e r : ℕ) → m.step q e ≡ Some r → bit m.alphabet e ≡ true
  pub to_within : (q e r : ℕ) → m.step q e ≡ Some r → r < m.count

-- the void machine
abbrev pub void : Machine
void = record { count = 0; first = 0; alphabet = 0; step = λ q e. None }
