-- The replies that a deck gets. Assumes nothing.
use Rattle.std.specs.Prelude.{◌≡◌, ℕ, List, [], ◌∷◌, take, drop, Ok, Err, Result}
use Rattle.plants.specs.Counters.{counter}
use Rattle.plants.specs.Machine.{Machine}
use Rattle.plants.specs.Products.{product}
use Rattle.control.specs.Problems.{filled, making, unmade_number}
use Rattle.control.specs.Setup.{Setup}
use Rattle.control.specs.Systems.{System, system}
use Rattle.theory.specs.declared.moves.Move.{Move}
use Rattle.checking.specs.Answers.{Checked, refusal_number}
use Rattle.checking.specs.declared.verdict.Refusal.{Refusal as Unchecked}
use Rattle.checking.specs.declared.verdict.Verdict.{Verdict}
use Rattle.checking.specs.declared.verdict.Verdict.TheVariants.{Clear, Clash}
use Rattle.sessions.specs.Calls.{opened}
use Rattle.frames.specs.Replies.{fault_layer, fault_line, fault_number}
use Rattle.decks.specs.Decks.{Reads, Tells}
use Rattle.decks.specs.Said.{Said}
use Rattle.control.specs.declared.problem.Unmade.{Unmade}
use Rattle.frames.specs.declared.faults.Fault.{Fault}
use Rattle.decks.specs.declared.unread.Unread.TheVariants.{Faulty}
use Rattle.replies.specs.Lines.{Reply, fault, clear, clash_replies}
use Rattle.replies.specs.Plays.{PlaysStayLegal, play_replies}

-- how many records of a trace are used
abbrev pub most_moves : ℕ
most_moves = 256

-- whether a problem can be made of what a deck says, and what it then means
abbrev pub makes : Said → Result (Unit {0}) Unmade
makes x = making x.events x.sites x.modes x.seen x.controlled

abbrev pub said_setup : Said → Setup
said_setup x = filled x.events x.sites x.modes x.seen x.controlled

-- the plant is the product of its table and its counter
abbrev pub said_plant : Said → Machine
said_plant x = product x.plant (counter x.counter.up x.counter.down x.counter.limit)

abbrev pub said_system : Said → System
said_system x = system (said_setup x) (said_plant x) x.spec

-- The replies to what the check answers. A refusal is a fault of layer 4 at line 0; a clash is shown by the run at the front
-- of the trace; and after a clear check every event to play is answered.
abbrev pub check_replies : System → List Move → List ℕ → Result Verdict Unchecked → List Reply
check_replies w trace plays (Ok Clear) = clear ∷ play_replies w (opened w) plays
check_replies w trace plays (Ok (Clash e k)) = clash_replies w.setup e (take k trace)
check_replies w trace plays (Err r) = fault 4 0 (refusal_number r) ∷ []

-- The replies that a deck gets, from what cells and trace held before and after. A text with a fault is answered by that
-- fault, and one of which no problem can be made by a fault of layer 3 at line 1. Any other is checked with the first 256
-- records of the trace, and the rest of the trace is as it was.
pub data Gets (text cells cells' : List ℕ) (trace trace' : List Move) : List Reply → Type 0 where
  unread : (why : Fault) → Reads text (Err (Faulty why)) → cells' ≡ cells → trace' ≡ trace → Gets text cells cells' trace trace' (fault (fault_layer why) (fault_line why) (fault_number why) ∷ [])
  unmade : (x : Said) (why : Unmade) → Tells text x → makes x ≡ Err why → cells' ≡ cells → trace' ≡ trace → Gets text cells cells' trace trace' (fault 3 1 (unmade_number why) ∷ [])
  checked : (x : Said) (r : Result Verdict Unchecked) → Tells text x → makes x ≡ Ok tt → Checked (said_system x) cells cells' (take most_moves trace) (take most_moves trace') r → drop most_moves trace' ≡ drop most_moves trace → Gets text cells cells' trace trace' (check_replies (said_system x) trace' x.plays r)

-- PLAYS STAY LEGAL, of the replies that a text gets: where they begin with clear, the rest answers the plays
abbrev pub StaysLegal : List ℕ → List Reply → Type 0
StaysLegal text replies =
    (x : Said) → Tells text x → (rest : List Reply) → replies ≡ clear ∷ rest → PlaysStayLegal (said_system x) rest
