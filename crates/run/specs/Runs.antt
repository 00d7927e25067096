-- What running a deck comes to. Assumes nothing.
use Rattle.std.specs.Prelude.{◌≡◌, ℕ, ◌<◌, ◌≤◌, List, [], ◌∷◌, length, take, drop, Ok, Err, Result}
use Rattle.control.specs.Problems.{setup, unmade_number}
use Rattle.control.specs.Systems.{System}
use Rattle.theory.specs.declared.moves.Move.{Move}
use Rattle.checking.specs.Answers.{Checked, refusal_number}
use Rattle.checking.specs.declared.verdict.Refusal.{Refusal as Unchecked}
use Rattle.checking.specs.declared.verdict.Verdict.{Verdict}
use Rattle.frames.specs.Replies.{fault_layer, fault_line, fault_number}
use Rattle.decks.specs.Decks.{most_bytes}
use Rattle.decks.specs.Said.{Said}
use Rattle.replies.specs.Decks.{Gets, StaysLegal, check_replies, makes, most_moves, said_setup}
use Rattle.replies.specs.Lines.{Begins, Reply, clear, fault, text_of}
use Rattle.replies.specs.Plays.{PlaysStayLegal}
use Rattle.control.specs.declared.problem.Problem.{Problem}
use Rattle.control.specs.declared.problem.Unmade.{Unmade}
use Rattle.run.specs.declared.stop.Fault.{Fault}
use Rattle.run.specs.declared.stop.Fault.TheVariants.{Text, Make, Check}
use Rattle.run.specs.declared.stop.Refusal.{Refusal}
use Rattle.run.specs.declared.stop.Refusal.TheVariants.{ShortOutput, OutOfMemory as NoMemory}
use Rattle.run.specs.declared.stop.Stop.{Stop}
use Rattle.run.specs.declared.stop.Stop.TheVariants.{Faulty, OutOfMemory}

-- how many bytes an output has at least
abbrev pub least_output : ℕ
least_output = 65536

-- the refusals' numbers
abbrev pub run_number : Refusal → ℕ
run_number ShortOutput = 33
run_number NoMemory = 34

-- the reply that a fault becomes: layers 1 and 2 are those of the text, 3 is make, at line 1, and 4 is check, at line 0
abbrev pub reply_of_fault : Fault → Reply
reply_of_fault (Text why) = fault (fault_layer why) (fault_line why) (fault_number why)
reply_of_fault (Make why) = fault 3 1 (unmade_number why)
reply_of_fault (Check why) = fault 4 0 (refusal_number why)

-- cells, trace and output are as they were
pub record Unaltered (cells cells' : List ℕ) (trace trace' : List Move) (out out' : List ℕ) : Type 0 where
  pub same_cells : cells' ≡ cells
  pub same_trace : trace' ≡ trace
  pub same_output : out' ≡ out

-- The replies that the text gets stand at the front of the output, n bytes of them, and past them it is as it was; and
-- where they answer plays, the plays stay legal.
pub record Replied (text cells cells' : List ℕ) (trace trace' : List Move) (out out' : List ℕ) (n : ℕ) : Type 0 where
  pub replies : List Reply
  pub gets : Gets text cells cells' trace trace' replies
  pub stays_legal : StaysLegal text replies
  pub written : Begins out out' n (text_of replies)

-- What running a text answers, from what cells, trace and output held before and after. It is refused for an output that is
-- too short, and else for want of memory while the text is read.
abbrev pub Ran : List ℕ → List ℕ → List ℕ → List Move → List Move → List ℕ → List ℕ → Result ℕ Refusal → Type 0
Ran text cells cells' trace trace' out out' (Ok n) =
    (least_output ≤ length out) × Replied text cells cells' trace trace' out out' n
Ran text cells cells' trace trace' out out' (Err ShortOutput) =
    (length out < least_output) × Unaltered cells cells' trace trace' out out'
Ran text cells cells' trace trace' out out' (Err NoMemory) =
    (least_output ≤ length out) × (length text ≤ most_bytes) × Unaltered cells cells' trace trace' out out'

-- what making a problem of a deck comes to
abbrev pub Made : Said → Result Problem Unmade → Type 0
Made x (Ok p) = (makes x ≡ Ok tt) × (setup p ≡ said_setup x)
Made x (Err why) = makes x ≡ Err why

-- a check with the first 256 records of the trace; the rest is as it was
pub record Asked (w : System) (cells cells' : List ℕ) (trace trace' : List Move) (r : Result Verdict Unchecked) : Type 0 where
  pub checked : Checked w cells cells' (take most_moves trace) (take most_moves trace') r
  pub past : drop most_moves trace' ≡ drop most_moves trace

-- the replies to a verdict stand at the front of the output, and where they answer plays, the plays stay legal
pub record Shown (w : System) (cells cells' : List ℕ) (trace trace' : List Move) (plays out out' : List ℕ) (n : ℕ) : Type 0 where
  pub verdict : Verdict
  pub asked : Asked w cells cells' trace trace' (Ok verdict)
  pub written : Begins out out' n (text_of (check_replies w trace' plays (Ok verdict)))
  pub stays_legal : (rest : List Reply) → check_replies w trace' plays (Ok verdict) ≡ clear ∷ rest → PlaysStayLegal w rest

-- the check's replies, or its refusal
abbrev pub Concluded : System → List ℕ → List ℕ → List Move → List Move → List ℕ → List ℕ → List ℕ → Result ℕ Unchecked → Type 0
Concluded w cells cells' trace trace' plays out out' (Ok n) = Shown w cells cells' trace trace' plays out out' n
Concluded w cells cells' trace trace' plays out out' (Err why) = Asked w cells cells' trace trace' (Err why) × (out' ≡ out)

-- the replies of a deck without a fault, or why there are none
abbrev pub Answered : List ℕ → List ℕ → List ℕ → List Move → List Move → List ℕ → List ℕ → Result ℕ Stop → Type 0
Answered text cells cells' trace trace' out out' (Ok n) = Replied text cells cells' trace trace' out out' n
Answered text cells cells' trace trace' out out' (Err (Faulty why)) =
    Gets text cells cells' trace trace' (reply_of_fault why ∷ []) × (out' ≡ out)
Answered text cells cells' trace trace' out out' (Err OutOfMemory) =
    (length text ≤ most_bytes) × Unaltered cells cells' trace trace' out out'
