-- A text gets one list of replies, but for which of the shortest runs a clash shows. Assumes nothing.
use Rattle.std.specs.Prelude.{◌≡◌, ℕ, List, ◌∷◌, length}
use Rattle.theory.specs.declared.moves.Move.{Move}
use Rattle.replies.specs.Decks.{Gets}
use Rattle.replies.specs.Lines.{Reply, clash}

-- Lists of replies are alike: they are one list, or both begin with a clash at the same event and with the same number of
-- moves. What follows a clash are the strings of a shortest run, by `Gets`, and these may differ.
pub data Alike : List Reply → List Reply → Type 0 where
  same : (rs : List Reply) → Alike rs rs
  clashes : (event moves : ℕ) (rs ss : List Reply) → Alike (clash event moves ∷ rs) (clash event moves ∷ ss)

-- the text may get these replies with m cells and a trace of n records, whatever cells and trace hold
pub record MayGet (text : List ℕ) (m n : ℕ) (replies : List Reply) : Type 0 where
  pub cells : List ℕ
  pub cells' : List ℕ
  pub trace : List Move
  pub trace' : List Move
  pub so_many_cells : length cells ≡ m
  pub so_many_records : length trace ≡ n
  pub gets : Gets text cells cells' trace trace' replies

-- whatever the text may get is alike
abbrev pub Only : List ℕ → ℕ → ℕ → Type 0
Only text m n = (rs ss : List Reply) → MayGet text m n rs → MayGet text m n ss → Alike rs ss
