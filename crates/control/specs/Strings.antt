-- Possible and legal strings, and what a site sees of one. A string is a list of events, the NEWEST FIRST, so that
-- e ∷ s is the string s with the event e added. A recorded list has the oldest first, and is the string `reverse` of it.
-- Assumes nothing.
use Rattle.std.specs.Prelude.{◌≡◌, ℕ, ◌<◌, cond, List, [], ◌∷◌, Some}
use Rattle.control.specs.Setup.{Setup}
use Rattle.control.specs.Systems.{System, first_pair, pair_step}
use Rattle.control.specs.declared.pair.Pair.{Pair}
use Rattle.control.specs.declared.pair.PairStep.TheVariants.{Bad, Legal as To}

-- the plant follows the events of s, all below the event count, from its first state to q
abbrev pub Follows : System → List ℕ → ℕ → Type 0
Follows w [] q = q ≡ w.plant.first
Follows w (e ∷ s) q = (p : ℕ) × Follows w s p × (e < w.setup.events) × (w.plant.step p e ≡ Some q)

-- a string is possible if the plant follows it
abbrev pub Possible : System → List ℕ → Type 0
Possible w s = (q : ℕ) × Follows w s q

-- s goes from the first pair to x by legal steps
abbrev pub Leads : System → List ℕ → Pair → Type 0
Leads w [] x = x ≡ first_pair w
Leads w (e ∷ s) x = (y : Pair) × Leads w s y × (pair_step w y e ≡ To x)

-- a string is legal if it goes from the first pair by legal steps; the empty string is legal
abbrev pub Legal : System → List ℕ → Type 0
Legal w s = (x : Pair) × Leads w s x

-- e is a bad step after the legal string s; that it is a legal one is Legal w (e ∷ s)
abbrev pub BadAfter : System → List ℕ → ℕ → Type 0
BadAfter w s e = (x : Pair) × Leads w s x × (pair_step w x e ≡ Bad)

-- the sight of a string: the list of its events that site i sees
abbrev pub sight : Setup → ℕ → List ℕ → List ℕ
sight p i [] = []
sight p i (e ∷ s) = cond (p.sees i e) (e ∷ sight p i s) (sight p i s)
