-- The theorems of the subject, as statements. Each is proved in proofs/, and the contract of the function of its name in
-- src/theorems.rt asks for the proof. Assumes nothing.
use Rattle.std.specs.Prelude.{◌≡◌, ℕ, Bool, true, false, ◌↔◌, List, ◌∷◌, length, ◌≢◌}
use Rattle.plants.specs.Masks.{bit}
use Rattle.control.specs.Setup.{Setup, Sound}
use Rattle.control.specs.Systems.{System, Keeps}
use Rattle.control.specs.Strings.{Possible, Leads, Legal, sight}
use Rattle.control.specs.declared.pair.Pair.{Pair}
use Rattle.theory.specs.Rules.{fusion, Exact, Kept}
use Rattle.theory.specs.Counterexamples.{Controller, Refutes, Counterexample, moves}
use Rattle.theory.specs.Tuples.{Wins, spelled}
use Rattle.theory.specs.Estimates.{Within, number, Member, Hidden, hidden, estimate, votes}
use Rattle.theory.specs.declared.moves.Move.{Move}

-- Fusion, by what the controllers of e say: an uncontrollable event is always allowed, a conjunctive one exactly when all
-- of them say yes, and a disjunctive one exactly when some of them does.
pub record Fused (p : Setup) (e : ℕ) (says : ℕ → Bool) : Type 0 where
  pub uncontrollable : ((i : ℕ) → p.controls i e ≢ true) → fusion p e says ≡ true
  pub conjunctive : p.disjunctive e ≡ false → (fusion p e says ≡ true) ↔ ((i : ℕ) → p.controls i e ≡ true → says i ≡ true)
  pub disjunctive : p.disjunctive e ≡ true → (fusion p e says ≡ true) ↔ ((i : ℕ) × (p.controls i e ≡ true) × (says i ≡ true))

abbrev pub FusionInWords : Type 0
FusionInWords = (p : Setup) → Sound p → (e : ℕ) (says : ℕ → Bool) → Fused p e says

-- A legal string is possible, every front of it is legal, and it leads to one pair only.
pub record LegalString (w : System) (s : List ℕ) : Type 0 where
  pub possible : Legal w s → Possible w s
  pub front : (e : ℕ) → Legal w (e ∷ s) → Legal w s
  pub once : (x y : Pair) → Leads w s x → Leads w s y → x ≡ y

abbrev pub LegalIsPossible : Type 0
LegalIsPossible = (w : System) (s : List ℕ) → LegalString w s

-- some legal string with the sight σ for site i leads to pair number n
abbrev pub LedTo : System → ℕ → List ℕ → ℕ → Type 0
LedTo w i σ n = (x : Pair) × (s : List ℕ) × Leads w s x × (number w x ≡ n) × (sight w.setup i s ≡ σ)

-- After any sight, a site's estimate holds exactly the pairs to which some legal string with that sight leads.
abbrev pub EstimatesAreExact : Type 0
EstimatesAreExact =
    (w : System) → Keeps w → (i : ℕ) (u : List ℕ) (n : ℕ) → (bit (estimate w i (sight w.setup i u)) n ≡ true) ↔ LedTo w i (sight w.setup i u) n

-- The hidden reach as a mask holds exactly the pairs of the hidden reach as a relation.
abbrev pub HiddenReachIsClosure : Type 0
HiddenReachIsClosure =
    (w : System) → Keeps w → (i m n : ℕ) → (bit (hidden w i m) n ≡ true) ↔ ((x : Pair) × (number w x ≡ n) × Within w x × Hidden w i (Member w m) x)

-- the run reaches the goal for e, spells s and the controllers' strings, and has as many moves as they ask for
pub record Weaves (w : System) (e : ℕ) (s : List ℕ) (t : ℕ → List ℕ) (run : List Move) : Type 0 where
  pub wins : Wins w e run
  pub spells_s : spelled w.setup 0 run ≡ s
  pub spells_t : (i : ℕ) → Controller w e i → spelled w.setup i run ≡ t i
  pub as_long : length run ≡ moves w e s t

-- Every counterexample for e gives a run of as many moves that reaches the goal and spells its strings, and every run
-- that reaches the goal spells a counterexample of as many moves as the run has.
pub record ComeFromEachOther (w : System) (e : ℕ) : Type 0 where
  pub run : (s : List ℕ) (t : ℕ → List ℕ) → Refutes w e s t → (run : List Move) × Weaves w e s t run
  pub counterexample : (run : List Move) → Wins w e run → Refutes w e (spelled w.setup 0 run) (λ i. spelled w.setup i run)
  pub as_long : (run : List Move) → Wins w e run → moves w e (spelled w.setup 0 run) (λ i. spelled w.setup i run) ≡ length run

abbrev pub RunsAndCounterexamples : Type 0
RunsAndCounterexamples = (w : System) → Keeps w → (e : ℕ) → ComeFromEachOther w e

-- Where some event has a counterexample, no local rules generate exactly the legal strings.
abbrev pub CounterexampleLeavesNoRules : Type 0
CounterexampleLeavesNoRules = (w : System) → Keeps w → (e : ℕ) → Counterexample w e → Kept w → ⊥

-- Where no event has one, the votes taken as rules generate exactly the legal strings; so some local rules do.
abbrev pub VotesGenerateLegal : Type 0
VotesGenerateLegal = (w : System) → Keeps w → ((e : ℕ) → Counterexample w e → ⊥) → Exact w (votes w) × Kept w
