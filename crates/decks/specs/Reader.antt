-- What a reader in memory has read, and what it answers. Assumes nothing.
use Rattle.std.specs.Prelude.{◌≡◌, ℕ, cond, ◌&&◌, List, is_some, Some, None, Ok, Err, Option, Result, ◌==◌}
use Rattle.std.specs.Borrow.{Bor}
use Rattle.plants.specs.Machine.{Machine}
use Rattle.frames.specs.Digits.{byte_at, mask_at}
use Rattle.frames.specs.Frames.{Frame, read_frame}
use Rattle.decks.specs.Order.{State, frame_fault, moved, step_fits, table_fits}
use Rattle.decks.specs.Said.{says}
use Rattle.frames.specs.declared.faults.Fault.{Fault}
use Rattle.frames.specs.declared.faults.Fault.TheVariants as fault
use Rattle.frames.specs.declared.faults.FrameFault.{FrameFault}
use Rattle.frames.specs.declared.faults.FrameFault.TheVariants.{OutOfRange, SecondStep}
use Rattle.decks.specs.declared.unread.Unread.{Unread}
use Rattle.decks.specs.declared.unread.Unread.TheVariants.{Faulty, OutOfMemory}
use Rattle.decks.specs.declared.reader.Reader.{Reader}

abbrev pub state : Reader → State
state r = record { stage = r.stage; said = says r.deck }

-- the fault with which a call refuses, if it does
abbrev pub refusal : {T : Type 0} → Result T FrameFault → Option FrameFault
refusal (Ok x) = None
refusal (Err why) = Some why

-- the call answers by that fault or by none, want of memory aside
abbrev pub Answers : {T : Type 0} → Result T Unread → Option FrameFault → Type 0
Answers (Ok x) o = o ≡ None
Answers (Err (Faulty (fault.Frame why))) o = o ≡ Some why
Answers (Err (Faulty (fault.Line why))) o = ⊥
Answers (Err OutOfMemory) o = Unit {0}

-- the fault of a table's values with this role due, and of a step's with this table, from the digits after the kind
abbrev pub table_fault : ℕ → ℕ → List ℕ → ℕ → Option FrameFault
table_fault role events ds number =
    cond (byte_at ds 0 == role && table_fits events (byte_at ds 1) (byte_at ds 2) (mask_at ds 3)) None (Some (OutOfRange number))

abbrev pub step_fault : ℕ → Machine → List ℕ → ℕ → Option FrameFault
step_fault role m ds number =
    cond (byte_at ds 0 == role && step_fits m (byte_at ds 1) (byte_at ds 2) (byte_at ds 3))
    (cond (is_some (m.step (byte_at ds 1) (byte_at ds 2))) (Some (SecondStep number)) None)
    (Some (OutOfRange number))

-- what one more frame comes to: the state after it and the text after it, or the fault of its line
abbrev pub judged : State → ℕ → Frame × List ℕ → Option FrameFault → Result (State × List ℕ) Fault
judged t number p None = Ok (moved t p.0, p.1)
judged t number p (Some why) = Err (fault.Frame why)

abbrev pub taken : State → ℕ → Result (Frame × List ℕ) Fault → Result (State × List ℕ) Fault
taken t number (Ok p) = judged t number p (frame_fault t p.0 number)
taken t number (Err why) = Err why

abbrev pub next : State → List ℕ → ℕ → Result (State × List ℕ) Fault
next t text number = taken t number (read_frame text number)

-- the call answers so and leaves the reader in that state, want of memory aside
abbrev pub Took : Result (State × List ℕ) Fault → State → Result (Bor (List ℕ)) Unread → Type 0
Took answer t (Ok rest) = answer ≡ Ok (t, rest.now)
Took answer t (Err (Faulty why)) = answer ≡ Err why
Took answer t (Err OutOfMemory) = Unit {0}
