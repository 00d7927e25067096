-- Where a move leads, by the row and the column in place of the node: a node's row and column are its digits to the base 400.
-- Assumes nothing.
use Rattle.std.proofs.Common.{◌≡◌, ℕ, ◌+◌, ◌*◌, ◌/◌, ◌%◌, ◌<◌, Bool, ap, ◌∙◌}
use Rattle.std.proofs.lemmas.Nat.{div-mul-add, mod-mul-add}
use Rattle.maze.specs.Grids.{moved}

pub at_spot : (walled : Bool) (row col m : ℕ) → col < 400 → moved walled ((row * 400 + col) / 400) ((row * 400 + col) % 400) m ≡ moved walled row col m
at_spot walled row col m h =
    ap (λ r. moved walled r ((row * 400 + col) % 400) m) (div-mul-add row 400 col h) ∙ ap (λ x. moved walled row x m) (mod-mul-add row 400 col h)
