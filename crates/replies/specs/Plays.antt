-- What the events to play are answered by, as calls of a session; and what that means for the strings of the plant.
-- Assumes nothing.
use Rattle.std.specs.Prelude.{◌≡◌, ℕ, zero, suc, ◌↔◌, List, [], ◌∷◌, ◌++◌, Ok, Err, Result}
use Rattle.control.specs.Strings.{Legal}
use Rattle.control.specs.Systems.{System}
use Rattle.sessions.specs.Calls.{allowed_in, balloted, happening, leaves, refusal_number, settling, with_ballot, with_event, with_round}
use Rattle.sessions.specs.Status.{Status}
use Rattle.sessions.specs.declared.call.Refusal.{Refusal}
use Rattle.replies.specs.Lines.{Reply, fault, clear, clash, string, played}

-- Site i casts its ballot; where it has voted in this round the call is refused, and changes nothing.
abbrev pub cast : System → Status → ℕ → Status
cast w s i = leaves s (balloted w s i) (with_ballot s i)

-- the ballots of the sites 1 to i are cast
unfoldable pub cast_to : System → Status → ℕ → Status
cast_to w s zero = s
cast_to w s (suc i) = cast w (cast_to w s i) (suc i)

-- The round is settled; where it is settled already the call is refused, and changes nothing.
abbrev pub settle : System → Status → Status
settle w s = leaves s (settling w s) (with_round s)

-- before an event is played: the missing ballots are cast, and the round is settled if need be
unfoldable pub ready : System → Status → Status
ready w s = settle w (cast_to w s w.setup.sites)

-- 0 for an event that happened, or the number of the refusal
abbrev pub outcome_number : Result ℕ Refusal → ℕ
outcome_number (Ok q) = 0
outcome_number (Err r) = refusal_number r

-- the answer to a play, and the session that it leaves
abbrev pub play_reply : System → Status → ℕ → Reply
play_reply w s e = played e (allowed_in (ready w s).round) (outcome_number (happening w (ready w s) e))

unfoldable pub after_play : System → Status → ℕ → Status
after_play w s e = leaves (ready w s) (happening w (ready w s) e) (with_event w (ready w s) e)

-- the answers to the events to play, in order
abbrev pub play_replies : System → Status → List ℕ → List Reply
play_replies w s [] = []
play_replies w s (e ∷ es) = play_reply w s e ∷ play_replies w (after_play w s e) es

-- the events that were answered 00, the newest first, after the events u
abbrev pub granted_after : List ℕ → List Reply → List ℕ
granted_after u [] = u
granted_after u (fault l n k ∷ rs) = granted_after u rs
granted_after u (clear ∷ rs) = granted_after u rs
granted_after u (clash e k ∷ rs) = granted_after u rs
granted_after u (string c es ∷ rs) = granted_after u rs
granted_after u (played e m zero ∷ rs) = granted_after (e ∷ u) rs
granted_after u (played e m (suc n) ∷ rs) = granted_after u rs

abbrev pub granted : List Reply → List ℕ
granted rs = granted_after [] rs

-- PLAYS STAY LEGAL: the events answered 00 form a legal string, after every play; and a play is answered 00 exactly when
-- that string with its event added is legal.
pub record PlaysStayLegal (w : System) (replies : List Reply) : Type 0 where
  pub legal : Legal w (granted replies)
  pub exactly : (before later : List Reply) (e m n : ℕ) → replies ≡ before ++ played e m n ∷ later → Legal w (granted before) × ((n ≡ 0) ↔ Legal w (e ∷ granted before))
