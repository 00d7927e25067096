-- Local rules, fusion, and the strings that rules generate. Assumes nothing.
use Rattle.std.specs.Prelude.{◌≡◌, ℕ, suc, Bool, true, cond, not, ◌&&◌, ◌||◌, List, [], ◌∷◌}
use Rattle.plants.specs.Ranges.{any, all}
use Rattle.control.specs.Setup.{Setup}
use Rattle.control.specs.Systems.{System}
use Rattle.control.specs.Strings.{Possible, Legal, sight}

-- a local rule for each site: after what the site saw, yes or no to an event
abbrev pub Rules : Type 0
Rules = ℕ → List ℕ → ℕ → Bool

-- Fusion, from what each site says to the event e: a disjunctive event is allowed when at least one of its controllers
-- says yes, any other when all of them do. So an uncontrollable event, which is never disjunctive and has no controllers,
-- is always allowed.
unfoldable pub fusion : Setup → ℕ → (ℕ → Bool) → Bool
fusion p e says =
    cond (p.disjunctive e)
    (any (suc p.sites) (λ i. p.controls i e && says i))
    (all (suc p.sites) (λ i. not (p.controls i e) || says i))

-- Rules generate the empty string, and s with e added exactly when they generate s, the longer string is possible, and
-- fusion, asking each rule at its site's sight of s, says yes to e.
pub data Generates (w : System) (r : Rules) : List ℕ → Type 0 where
  nothing : Generates w r []
  added : {s : List ℕ} {e : ℕ} → Generates w r s → Possible w (e ∷ s) → fusion w.setup e (λ i. r i (sight w.setup i s) e) ≡ true → Generates w r (e ∷ s)

-- the rules generate exactly the legal strings
pub record Exact (w : System) (r : Rules) : Type 0 where
  pub legal : (s : List ℕ) → Generates w r s → Legal w s
  pub whole : (s : List ℕ) → Legal w s → Generates w r s

-- some local rules generate exactly the legal strings
abbrev pub Kept : System → Type 0
Kept w = (r : Rules) × Exact w r
