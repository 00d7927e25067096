-- The worked example and its disjunctive variant, and what the definitions say of them. Two sites, three events: site 1
-- sees event 0, site 2 sees event 1, and both control event 2. Event 2 is legal only after one of the other two, and no
-- site sees both. Assumes nothing.
use Rattle.std.specs.Prelude.{◌≡◌, ℕ, Bool, true, false, cond, ◌&&◌, ◌||◌, List, [], ◌∷◌, Some, None, Option, ◌==◌, nat_eq}
use Rattle.plants.specs.Machine.{Machine}
use Rattle.control.specs.Setup.{Setup}
use Rattle.control.specs.Systems.{System, Keeps, pair_step}
use Rattle.control.specs.Strings.{Possible, Legal, BadAfter, sight}
use Rattle.control.specs.declared.pair.Pair.{Pair}
use Rattle.control.specs.declared.pair.PairStep.TheVariants.{Legal as To}
use Rattle.theory.specs.Rules.{fusion, Generates, Exact, Kept}
use Rattle.theory.specs.Counterexamples.{Refutes, Counterexample, unseen, moves}
use Rattle.theory.specs.Tuples.{Reaches, Wins, spelled}
use Rattle.theory.specs.Estimates.{first_estimate, told, votes}
use Rattle.theory.specs.declared.moves.Move.{Move}

-- the steps of a machine, listed: from a state, on an event, to a state
abbrev pub listed : List (ℕ × ℕ × ℕ) → ℕ → ℕ → Option ℕ
listed [] q e = None
listed (row ∷ rows) q e = cond (q == row.0 && e == row.1) (Some row.2) (listed rows q e)

abbrev pub plant_rows : List (ℕ × ℕ × ℕ)
plant_rows = (0, 0, 1) ∷ (0, 1, 2) ∷ (0, 2, 3) ∷ (1, 2, 3) ∷ (2, 2, 3) ∷ []

abbrev pub spec_rows : List (ℕ × ℕ × ℕ)
spec_rows = (0, 0, 1) ∷ (0, 1, 1) ∷ (1, 2, 1) ∷ []

-- the sites; event 2 is conjunctive, or disjunctive in the variant
abbrev pub two_sites : Bool → Setup
two_sites b = record {
  events = 3;
  sites = 2;
  sees = λ i e. (i == 1 && e == 0) || (i == 2 && e == 1);
  controls = λ i e. (i == 1 || i == 2) && (e == 2);
  disjunctive = λ e. b && (e == 2);
}

abbrev pub four_states : Machine
four_states = record { count = 4; first = 0; alphabet = 7; step = listed plant_rows }

abbrev pub worked : Bool → System
worked b = record { setup = two_sites b; plant = four_states; spec = record { count = 2; first = 0; alphabet = 7; step = listed spec_rows } }

-- the same with a specification of one state that knows no event
abbrev pub unruled : Bool → System
unruled b = record { setup = two_sites b; plant = four_states; spec = record { count = 1; first = 0; alphabet = 0; step = listed [] } }

abbrev pub pair : ℕ → ℕ → Pair
pair p q = record { plant = p; spec = q }

-- What the kind of event 2 does not change. Pair (p, q) has number 2 × p + q; the first estimate of site 1 holds the
-- pairs (0, 0), (2, 1) and (3, 1), to which the strings lead that site 1 does not see.
pub record Anyhow (b : Bool) : Type 0 where
  pub keeps : Keeps (worked b)
  pub sight_one : sight (two_sites b) 1 (2 ∷ 0 ∷ []) ≡ 0 ∷ []
  pub sight_two : sight (two_sites b) 2 (2 ∷ 0 ∷ []) ≡ []
  pub unseen_two : unseen (two_sites b) 2 (2 ∷ 0 ∷ 1 ∷ []) ≡ 2
  pub legal : Legal (worked b) (2 ∷ 0 ∷ [])
  pub bad : BadAfter (worked b) [] 2
  pub possible : Possible (worked b) (2 ∷ [])
  pub first_one : first_estimate (worked b) 1 ≡ 161
  pub first_two : first_estimate (worked b) 2 ≡ 137
  pub told_one : told (worked b) 1 161 0 ≡ 136
  pub told_two : told (worked b) 2 137 1 ≡ 160

-- An event unknown to the specification is not forbidden: the specification stays.
pub record Unknown (b : Bool) : Type 0 where
  pub stays : pair_step (unruled b) (pair 0 0) 2 ≡ To (pair 3 0)
  pub legal : Legal (unruled b) (2 ∷ [])
  pub free : (s : List ℕ) → Possible (unruled b) s → Legal (unruled b) s

-- site 1 may have missed event 1, and site 2 may have missed event 0
abbrev pub missed : ℕ → List ℕ
missed i = cond (i == 1) (1 ∷ []) (0 ∷ [])

abbrev pub move : ℕ → ℕ → Move
move e i = record { event = e; mover = i }

-- Conjunctive: both sites may think that event 2 is legal when it is bad.
pub record Conjunctive : Type 0 where
  pub uncontrollable : fusion (two_sites false) 0 (λ i. false) ≡ true
  pub one_of_two : fusion (two_sites false) 2 (λ i. nat_eq i 1) ≡ false
  pub counterexample : Refutes (worked false) 2 [] missed
  pub two_moves : moves (worked false) 2 [] missed ≡ 2
  pub run : Wins (worked false) 2 (move 0 2 ∷ move 1 1 ∷ [])
  pub spells_s : spelled (two_sites false) 0 (move 0 2 ∷ move 1 1 ∷ []) ≡ []
  pub spells_one : spelled (two_sites false) 1 (move 0 2 ∷ move 1 1 ∷ []) ≡ missed 1
  pub spells_two : spelled (two_sites false) 2 (move 0 2 ∷ move 1 1 ∷ []) ≡ missed 2
  pub votes_one : votes (worked false) 1 [] 2 ≡ true
  pub votes_two : votes (worked false) 2 [] 2 ≡ true
  pub misled : Generates (worked false) (votes (worked false)) (2 ∷ [])
  pub not_kept : Kept (worked false) → ⊥

-- Disjunctive: at first neither site can be sure, and after event 0 site 1 is.
pub record Disjunctive : Type 0 where
  pub uncontrollable : fusion (two_sites true) 0 (λ i. false) ≡ true
  pub one_of_two : fusion (two_sites true) 2 (λ i. nat_eq i 1) ≡ true
  pub first_one : votes (worked true) 1 [] 2 ≡ false
  pub first_two : votes (worked true) 2 [] 2 ≡ false
  pub seen_one : votes (worked true) 1 (0 ∷ []) 2 ≡ true
  pub stopped : fusion (two_sites true) 2 (λ i. votes (worked true) i [] 2) ≡ false
  pub allowed : fusion (two_sites true) 2 (λ i. votes (worked true) i (sight (two_sites true) i (0 ∷ [])) 2) ≡ true
  pub generated : Generates (worked true) (votes (worked true)) (2 ∷ 0 ∷ [])
  pub together : Reaches (worked true) 2 (move 0 0 ∷ []) (λ k. cond (k == 2) (pair 0 0) (pair 1 1))
  pub clear : (e : ℕ) → Counterexample (worked true) e → ⊥
  pub exact : Exact (worked true) (votes (worked true))

-- One site that sees event 0 and controls event 1, which is disjunctive. Event 1 is bad at first and legal after event 0,
-- and by the bad step the plant stays where it is.
abbrev pub detour : System
detour = record {
  setup = record { events = 2; sites = 1; sees = λ i e. (i == 1) && (e == 0); controls = λ i e. (i == 1) && (e == 1); disjunctive = λ e. (e == 1) };
  plant = record { count = 2; first = 0; alphabet = 3; step = listed ((0, 0, 1) ∷ (0, 1, 0) ∷ (1, 1, 1) ∷ []) };
  spec = record { count = 2; first = 0; alphabet = 3; step = listed ((0, 0, 1) ∷ (1, 1, 1) ∷ []) };
}

-- A string that is not legal is no part of a counterexample, though it is possible and its sight is that of a legal one.
pub record Detour : Type 0 where
  pub legal : Legal detour (1 ∷ 0 ∷ [])
  pub possible : Possible detour (1 ∷ 0 ∷ 1 ∷ [])
  pub alike : sight detour.setup 1 (0 ∷ 1 ∷ []) ≡ sight detour.setup 1 (0 ∷ [])
  pub not_legal : Legal detour (0 ∷ 1 ∷ []) → ⊥
  pub no_part : Refutes detour 1 (0 ∷ []) (λ i. 0 ∷ 1 ∷ []) → ⊥

-- all of these together
pub record WorkedExample : Type 0 where
  pub anyhow : (b : Bool) → Anyhow b
  pub unknown : (b : Bool) → Unknown b
  pub conjunctive : Conjunctive
  pub disjunctive : Disjunctive
  pub detour : Detour
