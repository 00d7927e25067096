-- What the decks of the examples tell: their frames, the newest first, which reading their lines computes.
-- Assumes nothing.
use Rattle.std.proofs.Common.{ℕ, Bool, true, false, cond, List, [], ◌∷◌, ◌++◌, refl}
use Rattle.plants.specs.Masks.{bit}
use Rattle.frames.specs.Digits.{pair_at}
use Rattle.frames.specs.Frames.{Frame, header, site, table, step, play}
use Rattle.decks.specs.Decks.{Tells}
use Rattle.decks.specs.Said.{Said, said}
use Rattle.worked.specs.Cases.{header as header_line, controllers, no_controllers, plant_lines, spec_lines, early_lines, plays, worked_deck, early_deck, uncontrolled_deck}
use Rattle.worked.proofs.Reading.{read_tells}

-- the sites and the plant, by the modes and the events that both sites control
abbrev plant_frames : ℕ → ℕ → List Frame
plant_frames modes controlled =
    step 0 2 2 3 ∷ step 0 1 2 3 ∷ step 0 0 2 3 ∷ step 0 0 1 2 ∷ step 0 0 0 1 ∷ table 0 4 0 7
    ∷ site 2 2 controlled ∷ site 1 1 controlled ∷ header 3 2 modes ∷ []

-- and the two specifications
abbrev worked_frames : ℕ → ℕ → List Frame
worked_frames modes controlled = step 1 1 2 1 ∷ step 1 0 1 1 ∷ step 1 0 0 1 ∷ table 1 2 0 7 ∷ plant_frames modes controlled

abbrev early_frames : ℕ → ℕ → List Frame
early_frames modes controlled = step 1 0 1 1 ∷ step 1 0 0 1 ∷ step 1 0 2 0 ∷ table 1 2 0 7 ∷ plant_frames modes controlled

-- what the decks say
abbrev pub worked_said : ℕ → ℕ → Said
worked_said modes controlled = said (worked_frames modes controlled)

abbrev pub played_said : Said
played_said = said (play 2 ∷ play 0 ∷ play 2 ∷ worked_frames 4 4)

abbrev pub early_said : ℕ → ℕ → Said
early_said modes controlled = said (early_frames modes controlled)

-- the mask of the disjunctive events
abbrev pub modes : Bool → ℕ
modes b = cond b 4 0

-- each deck tells it
pub worked_tells : (b : Bool) → Tells (worked_deck b []) (worked_said (modes b) 4)
unfolding pair_at bit
worked_tells true = read_tells (header_line true ∷ controllers ++ (plant_lines ++ (spec_lines ++ []))) (worked_frames 4 4) refl refl refl
worked_tells false = read_tells (header_line false ∷ controllers ++ (plant_lines ++ (spec_lines ++ []))) (worked_frames 0 4) refl refl refl

pub played_tells : Tells (worked_deck true plays) played_said
unfolding pair_at bit
played_tells = read_tells (header_line true ∷ controllers ++ (plant_lines ++ (spec_lines ++ plays))) (play 2 ∷ play 0 ∷ play 2 ∷ worked_frames 4 4) refl refl refl

pub early_tells : (b : Bool) → Tells (early_deck b) (early_said (modes b) 4)
unfolding pair_at bit
early_tells true = read_tells (header_line true ∷ controllers ++ (plant_lines ++ early_lines)) (early_frames 4 4) refl refl refl
early_tells false = read_tells (header_line false ∷ controllers ++ (plant_lines ++ early_lines)) (early_frames 0 4) refl refl refl

pub uncontrolled_tells : Tells uncontrolled_deck (worked_said 0 0)
unfolding pair_at bit
uncontrolled_tells = read_tells (header_line false ∷ no_controllers ++ (plant_lines ++ spec_lines)) (worked_frames 0 0) refl refl refl
