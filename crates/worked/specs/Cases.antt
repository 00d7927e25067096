-- The worked cases, as sentences about check, run and products: two examples under two fusions, one of them without a
-- controller, the sizes at which a check is refused, and the counts of a product. Assumes nothing.
use Rattle.std.specs.Prelude.{◌≡◌, ℕ, ◌≤◌, Bool, true, false, cond, List, [], ◌∷◌, ◌++◌, length, take, Ok, Err, codes, Result}
use Rattle.plants.specs.Machine.{Machine, void}
use Rattle.plants.specs.Products.{product}
use Rattle.control.specs.Systems.{System}
use Rattle.theory.specs.Example.{four_states, listed, two_sites, worked}
use Rattle.theory.specs.declared.moves.Move.{Move}
use Rattle.checking.specs.Answers.{Checked}
use Rattle.checking.specs.Sizes.{all_pairs}
use Rattle.checking.specs.declared.verdict.Refusal.{Refusal as Unchecked}
use Rattle.checking.specs.declared.verdict.Refusal.TheVariants.{TooFewCells, ShortTrace}
use Rattle.checking.specs.declared.verdict.Verdict.{Verdict}
use Rattle.checking.specs.declared.verdict.Verdict.TheVariants.{Clear, Clash}
use Rattle.frames.specs.Lines.{line_feed}
use Rattle.decks.specs.Decks.{Tells}
use Rattle.decks.specs.Said.{Said}
use Rattle.replies.specs.Decks.{said_system}
use Rattle.run.specs.Runs.{Ran}

-- The second example: the same plant and sites, and a specification under which event 2 is legal only at first.
abbrev pub early : Bool → System
early b = record {
  setup = two_sites b;
  plant = four_states;
  spec = record { count = 2; first = 0; alphabet = 7; step = listed ((0, 2, 0) ∷ (0, 0, 1) ∷ (0, 1, 1) ∷ []) };
}

-- the first example, with no controller
abbrev pub uncontrolled : System
uncontrolled = record {
  setup = record { events = 3; sites = 2; sees = (two_sites false).sees; controls = λ i e. false; disjunctive = λ e. false };
  plant = four_states;
  spec = (worked false).spec;
}

-- whatever cells and trace hold, a check with at least so many cells and so long a trace answers this
abbrev pub Answers : System → ℕ → ℕ → Result Verdict Unchecked → Type 0
Answers w cell_count trace_length answer =
    (cells cells' : List ℕ) (trace trace' : List Move) (r : Result Verdict Unchecked) → cell_count ≤ length cells → trace_length ≤ length trace → Checked w cells cells' trace trace' r → r ≡ answer

-- What check answers.
pub record ChecksAnswer : Type 0 where
  pub conjunctive : Answers (worked false) 512 2 (Ok (Clash 2 2))
  pub disjunctive : Answers (worked true) 512 0 (Ok Clear)
  pub early_conjunctive : Answers (early false) 512 0 (Ok Clear)
  pub early_disjunctive : Answers (early true) 512 2 (Ok (Clash 2 2))
  pub uncontrolled : Answers uncontrolled 8 0 (Ok (Clash 2 0))
  pub eight_pairs : all_pairs (worked false) ≡ 8
  pub too_few_cells : (cells cells' : List ℕ) (trace trace' : List Move) (r : Result Verdict Unchecked) → length cells ≡ 511 → Checked (worked false) cells cells' trace trace' r → r ≡ Err TooFewCells
  pub enough_cells : (cells cells' : List ℕ) (trace trace' : List Move) → length cells ≡ 512 → Checked (worked false) cells cells' trace trace' (Err TooFewCells) → ⊥
  pub short_trace : (cells cells' : List ℕ) (trace trace' : List Move) (r : Result Verdict Unchecked) → 512 ≤ length cells → length trace ≡ 1 → Checked (worked false) cells cells' trace trace' r → r ≡ Err ShortTrace

-- a text of these lines
abbrev pub lines : List (List ℕ) → List ℕ
lines [] = []
lines (l ∷ ls) = l ++ line_feed ∷ lines ls

-- the decks of these systems, line by line
abbrev pub header : Bool → List ℕ
header b = cond b (codes "01030200000004") (codes "01030200000000")

abbrev pub controllers : List (List ℕ)
controllers = codes "02010000000100000004" ∷ codes "02020000000200000004" ∷ []

abbrev pub no_controllers : List (List ℕ)
no_controllers = codes "02010000000100000000" ∷ codes "02020000000200000000" ∷ []

abbrev pub plant_lines : List (List ℕ)
plant_lines =
    codes "0300040000000007" ∷ codes "0400000001" ∷ codes "0400000102" ∷ codes "0400000203" ∷ codes "0400010203" ∷ codes "0400020203" ∷ []

abbrev pub spec_lines : List (List ℕ)
spec_lines = codes "0301020000000007" ∷ codes "0401000001" ∷ codes "0401000101" ∷ codes "0401010201" ∷ []

abbrev pub early_lines : List (List ℕ)
early_lines = codes "0301020000000007" ∷ codes "0401000200" ∷ codes "0401000001" ∷ codes "0401000101" ∷ []

abbrev pub plays : List (List ℕ)
plays = codes "0602" ∷ codes "0600" ∷ codes "0602" ∷ []

abbrev pub worked_deck : Bool → List (List ℕ) → List ℕ
worked_deck b more = lines (header b ∷ controllers ++ (plant_lines ++ (spec_lines ++ more)))

abbrev pub early_deck : Bool → List ℕ
early_deck b = lines (header b ∷ controllers ++ (plant_lines ++ early_lines))

abbrev pub uncontrolled_deck : List ℕ
uncontrolled_deck = lines (header false ∷ no_controllers ++ (plant_lines ++ spec_lines))

-- whatever 8,192 cells, a trace of 256 and an output hold, running the deck writes these lines to the front of the output
abbrev pub Replies : List ℕ → List (List ℕ) → Type 0
Replies deck answer =
    (cells cells' : List ℕ) (trace trace' : List Move) (out out' : List ℕ) (n : ℕ) → length cells ≡ 8192 → length trace ≡ 256 → Ran deck cells cells' trace trace' out out' (Ok n) → take n out' ≡ lines answer

-- the deck reads without fault, and what it says means this system
abbrev pub Means : List ℕ → System → Type 0
Means deck w = (x : Said) × Tells deck x × (said_system x ≡ w)

-- What the decks mean, and what run replies to them.
pub record RunsReply : Type 0 where
  pub worked_means : (b : Bool) → Means (worked_deck b []) (worked b)
  pub played_means : Means (worked_deck true plays) (worked true)
  pub early_means : (b : Bool) → Means (early_deck b) (early b)
  pub uncontrolled_means : Means uncontrolled_deck uncontrolled
  pub conjunctive : Replies (worked_deck false []) (codes "81020002" ∷ codes "8200" ∷ codes "820101" ∷ codes "820200" ∷ [])
  pub disjunctive : Replies (worked_deck true plays) (codes "80" ∷ codes "9002000000031C" ∷ codes "90000000000300" ∷ codes "90020000000700" ∷ [])
  pub early_conjunctive : Replies (early_deck false) (codes "80" ∷ [])
  pub early_disjunctive : Replies (early_deck true) (codes "81020002" ∷ codes "8200" ∷ codes "820101" ∷ codes "820200" ∷ [])
  pub uncontrolled : Replies uncontrolled_deck (codes "81020000" ∷ codes "8200" ∷ [])

-- Counts 8 and 8 make a product of 64 states, and 8 and 9 a void one.
pub record ProductsCount : Type 0 where
  pub largest : (a b : Machine) → a.count ≡ 8 → b.count ≡ 8 → (product a b).count ≡ 64
  pub void : (a b : Machine) → a.count ≡ 8 → b.count ≡ 9 → product a b ≡ void

-- all of these together
pub record WorkedCases : Type 0 where
  pub checks : ChecksAnswer
  pub runs : RunsReply
  pub products : ProductsCount
