-- Bytes are written one after the other over a line of line feeds: each takes the next two places. Assumes nothing.
use Rattle.std.proofs.Common.{◌≡◌, ℕ, zero, suc, ◌*◌, ◌/◌, ◌%◌, List, [], ◌∷◌, ◌++◌, length, set, replicate, refl, ap, arith}
use Rattle.frames.specs.Lines.{line_feed}
use Rattle.frames.specs.Replies.{hex, written}

-- these bytes, and so many line feeds after them
abbrev pub padded : List ℕ → ℕ → List ℕ
padded [] n = replicate n line_feed
padded (b ∷ bs) n = hex (b / 16) ∷ hex (b % 16) ∷ padded bs n

-- one more byte, at place i
pub padded_more : (bs : List ℕ) (b n i : ℕ) → i ≡ 2 * length bs → set (set (padded bs (suc (suc n))) i (hex (b / 16))) (suc i) (hex (b % 16)) ≡ padded (bs ++ b ∷ []) n
padded_more [] b n zero h = refl
padded_more [] b n (suc i) h = absurd (omega arith)
padded_more (x ∷ bs) b n zero h = absurd (omega arith)
padded_more (x ∷ bs) b n (suc zero) h = absurd (omega arith)
padded_more (x ∷ bs) b n (suc (suc i)) h = ap (λ l. hex (x / 16) ∷ hex (x % 16) ∷ l) (padded_more bs b n i (omega arith))

pub padded_one : (bs : List ℕ) → padded bs 1 ≡ written bs
padded_one [] = refl
padded_one (b ∷ bs) = ap (λ l. hex (b / 16) ∷ hex (b % 16) ∷ l) (padded_one bs)
