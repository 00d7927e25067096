-- Lines: what line a text begins with. Assumes nothing.
use Rattle.std.specs.Prelude.{◌≡◌, ℕ, suc, ◌%◌, ◌≤◌, true, cond, ◌&&◌, List, [], ◌∷◌, ◌++◌, length, take, drop, Ok, Err, Result, ◌==◌, nat_le, slice_index}
use Rattle.std.specs.Borrow.{Bor}
use Rattle.std.specs.List.{prefix_len}
use Rattle.frames.specs.Digits.{digital}
use Rattle.frames.specs.declared.faults.LineFault.{LineFault}
use Rattle.frames.specs.declared.faults.LineFault.TheVariants.{Malformed}

abbrev pub line_feed : ℕ
line_feed = 10

abbrev pub Digits : List ℕ → Type 0
Digits [] = Unit {0}
Digits (d ∷ ds) = (digital d ≡ true) × Digits ds

-- a line: 2 to 64 digits, an even count
pub record Line (l : List ℕ) : Type 0 where
  pub digits : Digits l
  pub low : 2 ≤ length l
  pub high : length l ≤ 64
  pub even : length l % 2 ≡ 0

-- a text begins with the line l and a line feed, and goes on with rest
abbrev pub BeginsWith : List ℕ → List ℕ → List ℕ → Type 0
BeginsWith text l rest = Line l × (text ≡ l ++ line_feed ∷ rest)

-- a text begins with no line
abbrev pub NoLine : List ℕ → Type 0
NoLine text = (l rest : List ℕ) → BeginsWith text l rest → ⊥

-- how many digits a text begins with
abbrev pub run : List ℕ → ℕ
run text = prefix_len digital text

-- the digits of the first line and the text after its line feed, or the fault of a text that begins with no line
abbrev pub first_line : List ℕ → ℕ → Result (List ℕ × List ℕ) LineFault
first_line text number =
    cond (nat_le 2 (run text) && (nat_le (run text) 64 && (run text % 2 == 0 && slice_index text (run text) == line_feed)))
    (Ok (take (run text) text, drop (suc (run text)) text))
    (Err (Malformed number))

-- what two borrowed parts of a text hold
abbrev pub parts : Result (Bor (List ℕ) × Bor (List ℕ)) LineFault → Result (List ℕ × List ℕ) LineFault
parts (Ok p) = Ok (p.0.now, p.1.now)
parts (Err fault) = Err fault
