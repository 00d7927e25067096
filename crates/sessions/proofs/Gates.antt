-- What a granted call says of the session that it was made on. A call that answers passed each of its gates in turn, so
-- every test holds; and where every test holds it answers. Assumes nothing.
use Rattle.std.proofs.Common.{◌≡◌, ℕ, Bool, true, false, cond, ltb, List, [], ◌∷◌, is_some, Some, None, Ok, Err, Option, Result, unwrap_or, sym, refl, ap, ◌∙◌, arith}
use Rattle.std.proofs.lemmas.Bool.{both_ways, not-true}
use Rattle.std.specs.Option.{ok_or}
use Rattle.plants.specs.Masks.{bit}
use Rattle.control.specs.Systems.{System}
use Rattle.sites.specs.Sites.{vote_mask}
use Rattle.sessions.specs.Calls.{gated, ballot_gates, settle_gates, happen_gates, same_counts, site, is_site, balloted, settled_in, allowed_in, all_voted, fused, settling, happening, leaves, with_event, Does}
use Rattle.sessions.specs.Status.{Status}
use Rattle.sessions.specs.declared.call.Call.TheVariants.{Happen}
use Rattle.sessions.specs.declared.call.Refusal.{Refusal}
use Rattle.sessions.specs.declared.call.Reply.TheVariants.{Moved}

-- every gate is open
abbrev pub AllOpen : List (Bool × Refusal) → Type 0
AllOpen [] = Unit {0}
AllOpen (gate ∷ gates) = (gate.0 ≡ true) × AllOpen gates

shut : {A : Type 0} (b : Bool) (rest : Result A Refusal) (r : Refusal) (a : A) → cond b rest (Err r) ≡ Ok a → (b ≡ true) × (rest ≡ Ok a)
shut true rest r a h = (refl, h)
shut false rest r a h = let z : ◌≡◌ {A = ℕ} 0 1 = cc in absurd (omega arith)

pub passed : {A : Type 0} (gates : List (Bool × Refusal)) (given a : A) → gated gates given ≡ Ok a → AllOpen gates × (given ≡ a)
passed [] given a h = (tt, (cc))
passed (gate ∷ gates) given a h =
    let (here, further) = shut gate.0 (gated gates given) gate.1 a h in
    let (others, same) = passed gates given a further in
    ((here, others), same)

pub grants : {A : Type 0} (gates : List (Bool × Refusal)) (given : A) → AllOpen gates → gated gates given ≡ Ok given
grants [] given h = refl
grants (gate ∷ gates) given (here, others) = ap (λ b. cond b (gated gates given) (Err gate.1)) here ∙ grants gates given others

-- what answers an option's value holds it
pub given_by : (o : Option ℕ) (x : Refusal) (v : ℕ) → ok_or o x ≡ Ok v → o ≡ Some v
given_by (Some y) x v h = cc
given_by None x v h = cc

-- what an accepted ballot, settlement and event say
pub record Balloted (w : System) (s : Status) (i v : ℕ) : Type 0 where
  pub started : s.started ≡ true
  pub counts : same_counts w s ≡ true
  pub is_site : is_site w i ≡ true
  pub first : is_some (site s i).ballot ≡ false
  pub vote : vote_mask w i (site s i).estimate ≡ v

pub ballot_passed : (w : System) (s : Status) (i v : ℕ) → balloted w s i ≡ Ok v → Balloted w s i v
ballot_passed w s i v h =
    let (gates, vote) = passed (ballot_gates w s i) (vote_mask w i (site s i).estimate) v h in
    record { started = gates.0; counts = gates.1.0; is_site = gates.1.1.0; first = not-true _ gates.1.1.1.0; vote = vote }

pub record Settles (w : System) (s : Status) (m : ℕ) : Type 0 where
  pub started : s.started ≡ true
  pub voting : settled_in s.round ≡ false
  pub voted : all_voted w s ≡ true
  pub mask : fused w s ≡ m

pub settle_passed : (w : System) (s : Status) (m : ℕ) → settling w s ≡ Ok m → Settles w s m
settle_passed w s m h =
    let (gates, mask) = passed (settle_gates w s) (fused w s) m h in
    record { started = gates.0; voting = not-true _ gates.1.1.0; voted = gates.1.1.1.0; mask = mask }

pub record Happens (w : System) (s : Status) (e q : ℕ) : Type 0 where
  pub started : s.started ≡ true
  pub event : ltb e w.setup.events ≡ true
  pub settled : settled_in s.round ≡ true
  pub allowed : bit (allowed_in s.round) e ≡ true
  pub steps : w.plant.step s.state e ≡ Some q

some_value : (o : Option ℕ) (q : ℕ) → is_some o ≡ true → unwrap_or o 0 ≡ q → o ≡ Some q
some_value (Some x) q is same = ap Some same
some_value None q is same = absurd (both_ways false refl is)

pub happen_passed : (w : System) (s : Status) (e q : ℕ) → happening w s e ≡ Ok q → Happens w s e q
happen_passed w s e q h =
    let (gates, same) = passed (happen_gates w s e) (unwrap_or (w.plant.step s.state e) 0) q h in
    let later = gates.1.1 in
    record {
      started = gates.0;
      event = later.0;
      settled = later.1.0;
      allowed = later.1.1.0;
      steps = some_value (w.plant.step s.state e) q later.1.1.1.0 same;
    }

-- a granted event, as the definition of calls has it
pub happen_does : (w : System) (s : Status) (e q : ℕ) → happening w s e ≡ Ok q → Does w s (Happen e) (Moved (Ok q)) (with_event w s e q)
happen_does w s e q is = (ap Moved (sym is), ap (λ r. leaves s r (with_event w s e)) (sym is))
