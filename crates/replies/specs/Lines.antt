-- Replies, and the lines that they are written as. Assumes nothing.
use Rattle.std.specs.Prelude.{◌≡◌, ℕ, zero, suc, ◌+◌, ◌/◌, ◌%◌, cond, List, [], ◌∷◌, ◌++◌, length, take, drop}
use Rattle.control.specs.Setup.{Setup}
use Rattle.theory.specs.declared.moves.Move.{Move}
use Rattle.checking.specs.Traces.{string_of}
use Rattle.frames.specs.Replies.{hex, written}

-- A reply: a fault, with its layer, line and number; clear; clash, with the event and the number of moves; the string of a
-- component; and the answer to a play, with its event, the mask of the allowed events, and 0 or the number of a refusal.
pub data Reply : Type 0 where
  fault : (layer line number : ℕ) → Reply
  clear : Reply
  clash : (event moves : ℕ) → Reply
  string : (component : ℕ) (events : List ℕ) → Reply
  played : (event allowed outcome : ℕ) → Reply

-- two bytes, and the four bytes of a mask, the highest first
abbrev pub two_bytes : ℕ → List ℕ
two_bytes n = n / 256 ∷ n % 256 ∷ []

abbrev pub mask_bytes : ℕ → List ℕ
mask_bytes m = m / 16777216 % 256 ∷ m / 65536 % 256 ∷ m / 256 % 256 ∷ m % 256 ∷ []

-- the bytes of a reply: its kind, and what it holds; written, those of a fault are the `fault_reply` of crate frames
abbrev pub bytes_of : Reply → List ℕ
bytes_of (fault layer line number) = 0x8F ∷ layer ∷ (two_bytes line ++ number ∷ [])
bytes_of clear = 0x80 ∷ []
bytes_of (clash e k) = 0x81 ∷ e ∷ two_bytes k
bytes_of (string c es) = 0x82 ∷ c ∷ es
bytes_of (played e m n) = 0x90 ∷ e ∷ (mask_bytes m ++ n ∷ [])

-- replies as text: a line for each, in order
abbrev pub text_of : List Reply → List ℕ
text_of [] = []
text_of (r ∷ rs) = written (bytes_of r) ++ text_of rs

-- the string of site i, if it is a controller of e
abbrev pub string_if : Setup → ℕ → List Move → ℕ → List Reply
string_if p e run i = cond (p.controls i e) (string i (string_of p i run) ∷ []) []

-- the strings of the controllers of e among the sites 1 to i, rising
abbrev pub strings_to : Setup → ℕ → List Move → ℕ → List Reply
strings_to p e run zero = []
strings_to p e run (suc i) = strings_to p e run i ++ string_if p e run (suc i)

-- the replies to a clash at e, which a run shows: the strings of component 0 and of each controller, rising
abbrev pub clash_replies : Setup → ℕ → List Move → List Reply
clash_replies p e run = clash e (length run) ∷ string 0 (string_of p 0 run) ∷ strings_to p e run p.sites

-- the digits of bytes, two to a byte
abbrev pub digits : List ℕ → List ℕ
digits [] = []
digits (b ∷ bs) = hex (b / 16) ∷ hex (b % 16) ∷ digits bs

-- the bytes stand from place i to place j of an output, and the rest of it is as it was
pub record Appends (out out' : List ℕ) (i j : ℕ) (bytes : List ℕ) : Type 0 where
  pub count : j ≡ i + length bytes
  pub front : take j out' ≡ take i out ++ bytes
  pub past : drop j out' ≡ drop j out
  pub same_length : length out' ≡ length out

-- the bytes stand at the front of an output, n of them, and the rest of it is as it was
pub record Begins (out out' : List ℕ) (n : ℕ) (bytes : List ℕ) : Type 0 where
  pub count : n ≡ length bytes
  pub front : take n out' ≡ bytes
  pub past : drop n out' ≡ drop n out
  pub same_length : length out' ≡ length out
