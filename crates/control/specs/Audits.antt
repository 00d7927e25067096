-- What an audit of a recorded list of events says. The list has the oldest event first. Assumes nothing.
use Rattle.std.specs.Prelude.{ℕ, suc, ◌<◌, ◌≤◌, cond, List, reverse, length, take, Ok, Err, Result, nat_lt, slice_index}
use Rattle.control.specs.Strings.{Possible, Legal as IsLegal}
use Rattle.control.specs.Systems.{System, outcome}
use Rattle.control.specs.declared.pair.Pair.{Pair}
use Rattle.control.specs.declared.pair.PairStep.{PairStep}
use Rattle.control.specs.declared.pair.PairStep.TheVariants.{NoStep as NoPairStep, Bad as BadPairStep, Legal as To}
use Rattle.control.specs.declared.recorded.Stop.{Stop}
use Rattle.control.specs.declared.recorded.Stop.TheVariants.{NoEvent, NoStep, Bad}
use Rattle.control.specs.declared.recorded.Stopped.{Stopped}

-- the string of the first k events of a recorded list
abbrev pub front : List ℕ → ℕ → List ℕ
front es k = reverse (take k es)

-- how the list stops being a legal string at place k: its event is not below the event count; it is, and the plant does not
-- follow the list through it; the plant does, and the step is not legal
abbrev pub Halts : System → List ℕ → ℕ → Stop → Type 0
Halts w es k NoEvent = w.setup.events ≤ slice_index es k
Halts w es k NoStep = (slice_index es k < w.setup.events) × (Possible w (front es (suc k)) → ⊥)
Halts w es k Bad = Possible w (front es (suc k)) × (IsLegal w (front es (suc k)) → ⊥)

-- the whole list is a legal string, or it is one up to a place, counted from 0, and stops being one there
abbrev pub Audited : System → List ℕ → Result (Unit {0}) Stopped → Type 0
Audited w es (Ok _) = IsLegal w (reverse es)
Audited w es (Err stopped) = (stopped.at < length es) × IsLegal w (front es stopped.at) × Halts w es stopped.at stopped.how

-- the pair that an event leads to by a legal step, or how it stops a list
abbrev pub legal_or_stop : PairStep Pair → Result Pair Stop
legal_or_stop NoPairStep = Err NoStep
legal_or_stop BadPairStep = Err Bad
legal_or_stop (To y) = Ok y

abbrev pub followed : System → Pair → ℕ → Result Pair Stop
followed w x e = cond (nat_lt e w.setup.events) (legal_or_stop (outcome w x e)) (Err NoEvent)
