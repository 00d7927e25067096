-- The replies to a deck. Assumes nothing.
use Rattle.std.specs.Prelude.{◌≡◌, ℕ, List, length}
use Rattle.theory.specs.declared.moves.Move.{Move}
use Rattle.replies.specs.Decks.{Gets, StaysLegal}
use Rattle.replies.specs.Lines.{Reply, text_of}

-- the bytes are the replies that a text gets with 8,192 cells and 256 records, and where they answer plays, the plays stay
-- legal
pub record Answers (text bytes : List ℕ) : Type 0 where
  pub cells : List ℕ
  pub cells' : List ℕ
  pub trace : List Move
  pub trace' : List Move
  pub replies : List Reply
  pub so_many_cells : length cells ≡ 8192
  pub so_many_records : length trace ≡ 256
  pub gets : Gets text cells cells' trace trace' replies
  pub stays_legal : StaysLegal text replies
  pub written : bytes ≡ text_of replies
