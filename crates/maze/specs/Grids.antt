-- A grid of 400 rows and columns, whose node at (row, col) is row * 400 + col, open or with walls.
-- Assumes nothing.
use Rattle.std.specs.Prelude.{◌≡◌, ℕ, ◌+◌, ◌-◌, ◌*◌, ◌/◌, ◌%◌, ◌<◌, Bool, cond, not, ◌&&◌, Some, None, Option, ◌==◌, nat_lt}
use Rattle.std.proofs.Common.{arith, lit<, lit≤}
use Rattle.std.proofs.lemmas.Bool.{cond_both, and_parts, ltb-true}
use Rattle.search.specs.Digraphs.{Digraph, Sound}

-- the column of the gap in an odd row
abbrev pub gap_of : ℕ → ℕ
gap_of row = cond (row % 4 == 1) 0 399

abbrev pub is_wall : Bool → ℕ → ℕ → Bool
is_wall walled row col = walled && (row % 2 == 1 && not (col == gap_of row))

abbrev pub node_at : Bool → ℕ → ℕ → Option ℕ
node_at walled row col = cond (is_wall walled row col) None (Some (row * 400 + col))

-- where a move leads: up, right, down and left
abbrev pub moved : Bool → ℕ → ℕ → ℕ → Option ℕ
moved walled row col m =
    cond (m == 0 && nat_lt 0 row) (node_at walled (row - 1) col)
    (cond (m == 1 && nat_lt (col + 1) 400) (node_at walled row (col + 1))
    (cond (m == 2 && nat_lt (row + 1) 400) (node_at walled (row + 1) col)
    (cond (m == 3 && nat_lt 0 col) (node_at walled row (col - 1)) None)))

abbrev pub grid : Bool → Digraph
grid walled = record {
  size = 160000;
  moves = 4;
  first = 0;
  edge = λ v m. moved walled (v / 400) (v % 400) m;
  goal = λ v. (v == 159999);
}

-- a node that is not a wall is a node of the grid
abbrev Within : Option ℕ → Type 0
Within o = (w : ℕ) → o ≡ Some w → w < 160000

none_within : Within None
none_within w e = let z : ◌≡◌ {A = ℕ} 0 1 = cc in absurd (omega arith)

node_within : (walled : Bool) (row col : ℕ) → row < 400 → col < 400 → Within (node_at walled row col)
node_within walled row col a b =
    cond_both (is_wall walled row col) None (Some (row * 400 + col)) Within (λ _. none_within) (λ _ w e. let is : w ≡ row * 400 + col = cc in omega arith)

-- a move leads to a node of the grid
moved_within : (walled : Bool) (row col m : ℕ) → row < 400 → col < 400 → Within (moved walled row col m)
moved_within walled row col m a b =
    cond_both (m == 0 && nat_lt 0 row) _ _ Within (λ _. node_within walled (row - 1) col (omega arith) b) (λ _.
    cond_both (m == 1 && nat_lt (col + 1) 400) _ _ Within (λ t. node_within walled row (col + 1) a (omega (arith, ltb-true (col + 1) 400 (and_parts (m == 1) (nat_lt (col + 1) 400) t).1))) (λ _.
    cond_both (m == 2 && nat_lt (row + 1) 400) _ _ Within (λ t. node_within walled (row + 1) col (omega (arith, ltb-true (row + 1) 400 (and_parts (m == 2) (nat_lt (row + 1) 400) t).1)) b) (λ _.
    cond_both (m == 3 && nat_lt 0 col) _ _ Within (λ _. node_within walled row (col - 1) a (omega arith)) (λ _. none_within))))

pub grid_sound : (walled : Bool) → Sound (grid walled)
grid_sound walled = record {
  small = lit≤ tt;
  starts = lit< tt;
  closed = λ v m w a b e. moved_within walled (v / 400) (v % 400) m (omega arith) (omega arith) w e;
}
