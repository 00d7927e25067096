-- Listings of decks. Assumes nothing.
use Rattle.std.specs.Prelude.{◌≡◌, ℕ, ◌<◌, List, ◌∷◌, ◌++◌, length, ◌≢◌, slice_index}
use Rattle.std.specs.Str.Parse.{IsNumeral, without_leading_plus, digits_value}

-- no line feed stands in the line
abbrev pub NoFeed : List ℕ → Type 0
NoFeed line = (k : ℕ) → k < length line → slice_index line k ≢ 10

-- a text begins with a line, and the rest stands after its line feed
pub record Line (text line rest : List ℕ) : Type 0 where
  pub whole : text ≡ line ++ 10 ∷ rest
  pub no_feed : NoFeed line

-- digits write a number in decimal; a plus may stand first
abbrev pub Writes : List ℕ → ℕ → Type 0
Writes digits n = IsNumeral 10 (without_leading_plus digits) × (digits_value 10 (without_leading_plus digits) ≡ n)

-- a listing begins with a deck: a line with its name, a line with its count of bytes, its bytes, and a line feed
pub record Entry (listing name deck rest : List ℕ) : Type 0 where
  pub digits : List ℕ
  pub whole : listing ≡ name ++ 10 ∷ (digits ++ 10 ∷ (deck ++ 10 ∷ rest))
  pub name_line : NoFeed name
  pub digits_line : NoFeed digits
  pub counted : Writes digits (length deck)
