-- Histories, and what they have to do with strings. Assumes nothing.
use Rattle.std.specs.Prelude.{◌≡◌, ℕ, Bool, true, false, ◌↔◌, List, [], ◌∷◌, is_ok, Ok, Err, Result}
use Rattle.plants.specs.Masks.{bit}
use Rattle.control.specs.Strings.{Legal, Possible, sight}
use Rattle.control.specs.Systems.{System}
use Rattle.theory.specs.Rules.{Kept}
use Rattle.checking.specs.declared.verdict.Verdict.{Verdict}
use Rattle.checking.specs.declared.verdict.Verdict.TheVariants.{Clear, Clash}
use Rattle.checking.specs.declared.verdict.Refusal.{Refusal as Unchecked}
use Rattle.checking.specs.declared.verdict.Refusal.TheVariants.{VoidPlant, VoidSpec, TooManyPairs, TooFewCells, ShortTrace}
use Rattle.sessions.specs.Calls.{Does}
use Rattle.sessions.specs.Status.{Status, closed}
use Rattle.sessions.specs.declared.call.Call.{Call}
use Rattle.sessions.specs.declared.call.Call.TheVariants.{Open, Ballot, Settle, Happen}
use Rattle.sessions.specs.declared.call.Refusal.{Refusal}
use Rattle.sessions.specs.declared.call.Reply.{Reply}
use Rattle.sessions.specs.declared.call.Reply.TheVariants.{Checked, Voted, Allowed, Moved}

-- a call with its reply
abbrev pub Exchange : Type 0
Exchange = Call × Reply

-- A history is a list of calls with their replies from a new session, the newest first, on one problem, plant and
-- specification; refused calls count in. It leads to what the session then holds.
pub data History (w : System) : List Exchange → Status → Type 0 where
  new : History w [] closed
  next : {h : List Exchange} {s : Status} {call : Call} {reply : Reply} {s' : Status} → History w h s → Does w s call reply s' → History w ((call, reply) ∷ h) s'

-- what an exchange makes of the accepted events so far: an open that answered clear starts anew, an event that happen did
-- not refuse is added, and nothing else counts
abbrev pub accept : Reply → Call → List ℕ → List ℕ
accept (Checked (Ok Clear)) call s = []
accept (Checked (Ok (Clash e k))) call s = s
accept (Checked (Err r)) call s = s
accept (Voted r) call s = s
accept (Allowed r) call s = s
accept (Moved (Ok q)) Open s = s
accept (Moved (Ok q)) (Ballot i) s = s
accept (Moved (Ok q)) Settle s = s
accept (Moved (Ok q)) (Happen e) s = e ∷ s
accept (Moved (Err r)) call s = s

-- the accepted events: those that happen did not refuse since the last open that answered clear; none without one
abbrev pub accepted : List Exchange → List ℕ
accepted [] = []
accepted (x ∷ h) = accept x.1 x.0 (accepted h)

-- A round starts at an open that answered clear and at each accepted event, and is settled once settle answered in it.
abbrev pub round_after : Reply → Bool → Bool
round_after (Checked (Ok Clear)) b = false
round_after (Checked (Ok (Clash e k))) b = b
round_after (Checked (Err r)) b = b
round_after (Voted r) b = b
round_after (Allowed (Ok m)) b = true
round_after (Allowed (Err r)) b = b
round_after (Moved (Ok q)) b = false
round_after (Moved (Err r)) b = b

abbrev pub settled : List Exchange → Bool
settled [] = false
settled (x ∷ h) = round_after x.1 (settled h)

-- what site i was shown
abbrev pub shown : System → ℕ → List Exchange → List ℕ
shown w i h = sight w.setup i (accepted h)

-- the check is not refused for its inputs: for a void plant or specification, too many pairs or too few cells
abbrev pub Sized : Result Verdict Unchecked → Type 0
Sized (Ok v) = Unit {0}
Sized (Err VoidPlant) = ⊥
Sized (Err VoidSpec) = ⊥
Sized (Err TooManyPairs) = ⊥
Sized (Err TooFewCells) = ⊥
Sized (Err ShortTrace) = Unit {0}

-- CLEAR EXACTLY WHEN LOCAL RULES EXIST: whatever cells and trace hold, a check, and so an open, that is not refused for its
-- inputs answers clear exactly when some local rules generate exactly the legal strings.
abbrev pub ClearExactly : System → Result Verdict Unchecked → Type 0
ClearExactly w r = Sized r → (r ≡ Ok Clear) ↔ Kept w

-- ACCEPTED EVENTS STAY LEGAL: after every list of calls the accepted events form a legal string, and on a settled round
-- happen accepts an event exactly when that string with the event added is legal.
abbrev pub AcceptsExactly : System → List Exchange → ℕ → Result ℕ Refusal → Type 0
AcceptsExactly w h e r = settled h ≡ true → (is_ok r ≡ true) ↔ Legal w (e ∷ accepted h)

-- so a settled round allows, of the events that the plant can do, exactly those that keep the string legal
abbrev pub AllowsExactly : System → List Exchange → Result ℕ Refusal → Type 0
AllowsExactly w h (Ok m) = (e : ℕ) → Possible w (e ∷ accepted h) → (bit m e ≡ true) ↔ Legal w (e ∷ accepted h)
AllowsExactly w h (Err r) = Unit {0}

-- EQUAL SIGHTS, EQUAL VOTES: for two histories, alike in problem and in what plant and specification mean, of any two
-- implementations and any lists of calls: if in both a site was shown the same events in the same order and its ballot comes
-- next and is refused in neither, both answer the same vote. Here the one history is h, and its ballot answers r.
abbrev pub EqualVotes : System → List Exchange → ℕ → Result ℕ Refusal → Type 0
EqualVotes w h i (Ok a) =
    (v : System) → v ≡ w → (g : List Exchange) (t : Status) → History v g t → shown v i g ≡ shown w i h → (b : ℕ) (t' : Status) → Does v t (Ballot i) (Voted (Ok b)) t' → a ≡ b
EqualVotes w h i (Err r) = Unit {0}

-- The three promises, for every list of calls.
pub record Promises (w : System) : Type 0 where
  pub clear_exactly : (s : Status) (r : Result Verdict Unchecked) (s' : Status) → Does w s Open (Checked r) s' → ClearExactly w r
  pub stays_legal : (h : List Exchange) (s : Status) → History w h s → Legal w (accepted h)
  pub accepts_exactly : (h : List Exchange) (s : Status) → History w h s → (e : ℕ) (r : Result ℕ Refusal) (s' : Status) → Does w s (Happen e) (Moved r) s' → AcceptsExactly w h e r
  pub equal_votes : (h : List Exchange) (s : Status) → History w h s → (i : ℕ) (r : Result ℕ Refusal) (s' : Status) → Does w s (Ballot i) (Voted r) s' → EqualVotes w h i r
