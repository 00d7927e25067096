-- A plant under a specification, with a problem's sites around it, and the steps of its pairs. Assumes nothing.
use Rattle.std.specs.Prelude.{ℕ, cond, Some, None, Option, nat_lt}
use Rattle.plants.specs.Masks.{bit}
use Rattle.plants.specs.Machine.{Machine, Lawful}
use Rattle.control.specs.Setup.{Setup, Sound}
use Rattle.control.specs.declared.pair.Pair.{Pair}
use Rattle.control.specs.declared.pair.PairStep.{PairStep}
use Rattle.control.specs.declared.pair.PairStep.TheVariants.{NoStep, Bad, Legal}

-- what a problem, a plant and a specification mean
pub record System : Type 0 where
  pub setup : Setup
  pub plant : Machine
  pub spec : Machine

abbrev pub system : Setup → Machine → Machine → System
system setup plant spec = record { setup = setup; plant = plant; spec = spec }

-- what every system that exists keeps
pub record Keeps (w : System) : Type 0 where
  pub setup : Sound w.setup
  pub plant : Lawful w.plant
  pub spec : Lawful w.spec

-- the pair of the first states
abbrev pub first_pair : System → Pair
first_pair w = record { plant = w.plant.first; spec = w.spec.first }

-- the specification stays at q on an event that it does not know, and steps on one that it knows
abbrev pub obeys : System → ℕ → ℕ → Option ℕ
obeys w q e = cond (bit w.spec.alphabet e) (w.spec.step q e) (Some q)

-- the plant's step and what the specification makes of it
abbrev pub judged : Option ℕ → Option ℕ → PairStep Pair
judged None r = NoStep
judged (Some p) None = Bad
judged (Some p) (Some q) = Legal (record { plant = p; spec = q })

-- What an event does to a pair: a pair steps on an event of the problem when the plant does, and the step is legal if
-- the specification does not know the event and stays, or knows it and steps too; otherwise it is bad.
abbrev pub outcome : System → Pair → ℕ → PairStep Pair
outcome w x e =
    cond (nat_lt e w.setup.events) (judged (w.plant.step x.plant e) (obeys w x.spec e)) NoStep

-- the same, shut: what strings are made of, and what most proofs need not look into
unfoldable pub pair_step : System → Pair → ℕ → PairStep Pair
pair_step w x e = outcome w x e
