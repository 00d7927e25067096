-- A list of calls performed in lent cells and a lent trace. Assumes nothing.
use Rattle.std.specs.Prelude.{◌≡◌, ℕ, List, [], ◌∷◌, Result}
use Rattle.control.specs.Systems.{System}
use Rattle.theory.specs.declared.moves.Move.{Move}
use Rattle.checking.specs.Answers.{Checked}
use Rattle.checking.specs.declared.verdict.Verdict.{Verdict}
use Rattle.checking.specs.declared.verdict.Refusal.{Refusal as Unchecked}
use Rattle.sessions.specs.Calls.{Does}
use Rattle.sessions.specs.Histories.{Exchange}
use Rattle.sessions.specs.Status.{Status, closed}
use Rattle.sessions.specs.declared.call.Call.{Call}
use Rattle.sessions.specs.declared.call.Call.TheVariants.{Open, Ballot, Settle, Happen}
use Rattle.sessions.specs.declared.call.Reply.{Reply}
use Rattle.sessions.specs.declared.call.Reply.TheVariants.{Checked as CheckedBy}

-- what a call does to the cells and the trace that it is lent: an open is a check in them, and the others leave them
abbrev pub Lent : System → Call → Reply → List ℕ → List ℕ → List Move → List Move → Type 0
Lent w Open reply cells cells' trace trace' = (r : Result Verdict Unchecked) × (reply ≡ CheckedBy r) × Checked w cells cells' trace trace' r
Lent w (Ballot i) reply cells cells' trace trace' = (cells' ≡ cells) × (trace' ≡ trace)
Lent w Settle reply cells cells' trace trace' = (cells' ≡ cells) × (trace' ≡ trace)
Lent w (Happen e) reply cells cells' trace trace' = (cells' ≡ cells) × (trace' ≡ trace)

-- Calls performed with their replies, the newest first, from a new session and these cells and this trace: each does what
-- `Does` says to the session, and what `Lent` says to the cells and the trace as the one before left them. It leads to what
-- all of them then hold.
pub data Performed (w : System) (cells : List ℕ) (trace : List Move) : List Exchange → Status → List ℕ → List Move → Type 0 where
  new : Performed w cells trace [] closed cells trace
  next : {h : List Exchange} {s : Status} {c : List ℕ} {t : List Move} {call : Call} {reply : Reply} {s' : Status} {c' : List ℕ} {t' : List Move}
      → Performed w cells trace h s c t → Does w s call reply s' → Lent w call reply c c' t t' → Performed w cells trace ((call, reply) ∷ h) s' c' t'
