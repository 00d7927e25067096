-- What writing replies to a lent output comes to. Assumes nothing.
use Rattle.std.specs.Prelude.{◌≡◌, ℕ, Bool, true, false, List, Ok, Err, Result}
use Rattle.replies.specs.Lines.{Reply, fault, clear, clash, played, Appends}
use Rattle.replies.specs.declared.lines.NoRoom.{NoRoom}
use Rattle.replies.specs.declared.reply.Reply.{Reply as Plain}
use Rattle.replies.specs.declared.reply.Reply.TheVariants as plain

-- a reply of one line and a fixed length, as the format has it
abbrev pub reply : Plain → Reply
reply (plain.Fault layer line number) = fault layer line number
reply plain.Clear = clear
reply (plain.Clash e k) = clash e k
reply (plain.Played e m n) = played e m n

-- Where it fits the bytes are written from place i on, and the place after them is answered; where it does not, the output
-- is as it was.
abbrev pub Wrote : Bool → List ℕ → List ℕ → List ℕ → ℕ → Result ℕ NoRoom → Type 0
Wrote fits bytes out out' i (Ok j) = (fits ≡ true) × Appends out out' i j bytes
Wrote fits bytes out out' i (Err none) = (fits ≡ false) × (out' ≡ out)
