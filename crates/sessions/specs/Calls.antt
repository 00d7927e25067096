-- What each call of a session answers, and what session it leaves. A call is granted or refused by its gates: tests in
-- order, each with the refusal that it gives where it fails. A refused call leaves the session as it was.
-- Assumes nothing.
use Rattle.std.specs.Prelude.{◌≡◌, ℕ, suc, ◌-◌, Bool, true, false, cond, not, ◌&&◌, ◌||◌, List, [], ◌∷◌, is_some, Some, None, Option, Ok, Err, Result, ◌==◌, nat_le, nat_lt, slice_index_or, slice_set}
use Rattle.std.specs.Option.{unwrap_or}
use Rattle.plants.specs.Masks.{bit, mask_of}
use Rattle.plants.specs.Ranges.{all}
use Rattle.control.specs.Setup.{Setup}
use Rattle.control.specs.Systems.{System}
use Rattle.theory.specs.Rules.{fusion}
use Rattle.theory.specs.Estimates.{first_estimate, told}
use Rattle.sites.specs.Sites.{vote_mask}
use Rattle.theory.specs.declared.moves.Move.{Move}
use Rattle.checking.specs.Answers.{Checked}
use Rattle.checking.specs.declared.verdict.Verdict.{Verdict}
use Rattle.checking.specs.declared.verdict.Verdict.TheVariants.{Clear, Clash}
use Rattle.checking.specs.declared.verdict.Refusal.{Refusal as Unchecked}
use Rattle.sessions.specs.Status.{Status, no_site}
use Rattle.sessions.specs.declared.call.Call.{Call}
use Rattle.sessions.specs.declared.call.Call.TheVariants.{Open, Ballot, Settle, Happen}
use Rattle.sessions.specs.declared.call.Refusal.{Refusal}
use Rattle.sessions.specs.declared.call.Refusal.TheVariants.{CountDiffers, Closed, NoSite, HasVoted, BallotMissing, IsSettled, NotSettled, NoEvent, NotAllowed, NoStep}
use Rattle.sessions.specs.declared.call.Reply.{Reply}
use Rattle.sessions.specs.declared.call.Reply.TheVariants.{Checked as CheckedBy, Voted, Allowed, Moved}
use Rattle.sessions.specs.declared.session.Site.{Site}

-- the refusals' numbers
abbrev pub refusal_number : Refusal → ℕ
refusal_number CountDiffers = 20
refusal_number Closed = 21
refusal_number NoSite = 22
refusal_number HasVoted = 23
refusal_number BallotMissing = 24
refusal_number IsSettled = 25
refusal_number NotSettled = 26
refusal_number NoEvent = 27
refusal_number NotAllowed = 28
refusal_number NoStep = 29

-- the first gate that is shut refuses; past them all, the call answers
abbrev pub gated : {A : Type 0} → List (Bool × Refusal) → A → Result A Refusal
gated [] a = Ok a
gated (gate ∷ gates) a = cond gate.0 (gated gates a) (Err gate.1)

-- every call after the opening: the session is open, and what is brought has the counts of the opening
abbrev pub same_counts : System → Status → Bool
same_counts w s =
    (s.plant_count == w.plant.count) && (s.spec_count == w.spec.count && s.site_count == w.setup.sites)

abbrev pub later : System → Status → List (Bool × Refusal) → List (Bool × Refusal)
later w s gates = (s.started, Closed) ∷ (same_counts w s, CountDiffers) ∷ gates

-- the record of site i; sites are numbered from 1
abbrev pub site : Status → ℕ → Site
site s i = slice_index_or s.sites (i - 1) no_site

abbrev pub is_site : System → ℕ → Bool
is_site w i = nat_le 1 i && nat_le i w.setup.sites

-- BALLOT answers and keeps one site's vote for the round.
abbrev pub ballot_gates : System → Status → ℕ → List (Bool × Refusal)
ballot_gates w s i = later w s ((is_site w i, NoSite) ∷ (not (is_some (site s i).ballot), HasVoted) ∷ [])

abbrev pub balloted : System → Status → ℕ → Result ℕ Refusal
balloted w s i = gated (ballot_gates w s i) (vote_mask w i (site s i).estimate)

abbrev pub with_ballot : Status → ℕ → ℕ → Status
with_ballot s i v =
    record {
      started = s.started;
      plant_count = s.plant_count;
      spec_count = s.spec_count;
      site_count = s.site_count;
      state = s.state;
      sites = slice_set s.sites (i - 1) (record { estimate = (site s i).estimate; ballot = Some v });
      round = s.round;
    }

-- SETTLE answers and keeps the mask of the events that fusion allows.
abbrev pub settled_in : Option ℕ → Bool
settled_in round = is_some round

abbrev pub allowed_in : Option ℕ → ℕ
allowed_in round = unwrap_or round 0

abbrev pub has_voted : Status → ℕ → Bool
has_voted s i = is_some (site s i).ballot

-- each site of 1 to n has voted
abbrev pub all_voted : System → Status → Bool
all_voted w s = all (suc w.setup.sites) (λ i. (i == 0) || has_voted s i)

-- what site i said of e in this round
abbrev pub said : Status → ℕ → ℕ → Bool
said s i e = bit (unwrap_or (site s i).ballot 0) e

abbrev pub fused_by : Setup → Status → ℕ
fused_by p s = mask_of p.events (λ e. fusion p e (λ i. said s i e))

abbrev pub fused : System → Status → ℕ
fused w s = fused_by w.setup s

abbrev pub settle_gates : System → Status → List (Bool × Refusal)
settle_gates w s = later w s ((not (settled_in s.round), IsSettled) ∷ (all_voted w s, BallotMissing) ∷ [])

abbrev pub settling : System → Status → Result ℕ Refusal
settling w s = gated (settle_gates w s) (fused w s)

abbrev pub with_round : Status → ℕ → Status
with_round s m =
    record {
      started = s.started;
      plant_count = s.plant_count;
      spec_count = s.spec_count;
      site_count = s.site_count;
      state = s.state;
      sites = s.sites;
      round = Some m;
    }

-- HAPPEN moves the plant by an event, tells the sites that see it, starts a new round and answers the plant's state.
abbrev pub happen_gates : System → Status → ℕ → List (Bool × Refusal)
happen_gates w s e =
    later w s
    (
    (nat_lt e w.setup.events, NoEvent)
    ∷ (settled_in s.round, NotSettled)
    ∷ (bit (allowed_in s.round) e, NotAllowed)
    ∷ (is_some (w.plant.step s.state e), NoStep)
    ∷ []
    )

abbrev pub happening : System → Status → ℕ → Result ℕ Refusal
happening w s e = gated (happen_gates w s e) (unwrap_or (w.plant.step s.state e) 0)

-- a site's record in the next round: it is told the event if it sees it, and has not voted
abbrev pub next_site : System → Status → ℕ → ℕ → Site
next_site w s e i =
    record { estimate = cond (w.setup.sees i e) (told w i (site s i).estimate e) (site s i).estimate; ballot = None }

abbrev pub next_sites : System → Status → ℕ → List Site
next_sites w s e = next_site w s e 1 ∷ next_site w s e 2 ∷ next_site w s e 3 ∷ next_site w s e 4 ∷ []

abbrev pub with_event : System → Status → ℕ → ℕ → Status
with_event w s e q =
    record {
      started = s.started;
      plant_count = s.plant_count;
      spec_count = s.spec_count;
      site_count = s.site_count;
      state = q;
      sites = next_sites w s e;
      round = None;
    }

-- OPEN runs check; if it is clear, plant and estimates start at their first, with a round without ballots.
abbrev pub first_site : System → ℕ → Site
first_site w i = record { estimate = first_estimate w i; ballot = None }

abbrev pub first_sites : System → List Site
first_sites w = first_site w 1 ∷ first_site w 2 ∷ first_site w 3 ∷ first_site w 4 ∷ []

abbrev pub opened : System → Status
opened w =
    record {
      started = true;
      plant_count = w.plant.count;
      spec_count = w.spec.count;
      site_count = w.setup.sites;
      state = w.plant.first;
      sites = first_sites w;
      round = None;
    }

abbrev pub is_clear : Result Verdict Unchecked → Bool
is_clear (Ok Clear) = true
is_clear (Ok (Clash e k)) = false
is_clear (Err r) = false

-- a check that answers r, whatever the cells and the trace held and hold
abbrev pub Ran : System → Result Verdict Unchecked → Type 0
Ran w r = (cells : List ℕ) × (cells' : List ℕ) × (trace : List Move) × (trace' : List Move) × Checked w cells cells' trace trace' r

abbrev pub Opens : System → Status → Result Verdict Unchecked → Status → Type 0
Opens w s r s' = Ran w r × (s' ≡ cond (is_clear r) (opened w) s)

-- a granted call leaves the session that `f` makes of its answer, a refused one leaves it as it was
abbrev pub leaves : Status → Result ℕ Refusal → (ℕ → Status) → Status
leaves s (Ok a) f = f a
leaves s (Err r) f = s

-- What a call answers and what session it leaves, from the session s. An open may find anything in the cells and the trace.
abbrev pub Does : System → Status → Call → Reply → Status → Type 0
Does w s Open reply s' =
    (r : Result Verdict Unchecked) × (reply ≡ CheckedBy r) × Opens w s r s'
Does w s (Ballot i) reply s' = (reply ≡ Voted (balloted w s i)) × (s' ≡ leaves s (balloted w s i) (with_ballot s i))
Does w s Settle reply s' = (reply ≡ Allowed (settling w s)) × (s' ≡ leaves s (settling w s) (with_round s))
Does w s (Happen e) reply s' = (reply ≡ Moved (happening w s e)) × (s' ≡ leaves s (happening w s e) (with_event w s e))
