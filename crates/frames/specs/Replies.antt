-- Faults by their layers, lines and numbers, and the reply that a fault becomes. Assumes nothing.
use Rattle.std.specs.Prelude.{ℕ, ◌+◌, ◌/◌, ◌%◌, cond, List, [], ◌∷◌, nat_lt}
use Rattle.frames.specs.Lines.{line_feed}
use Rattle.frames.specs.declared.faults.Fault.{Fault}
use Rattle.frames.specs.declared.faults.Fault.TheVariants.{Line, Frame}
use Rattle.frames.specs.declared.faults.FrameFault.{FrameFault}
use Rattle.frames.specs.declared.faults.FrameFault.TheVariants.{Ended, NotDue, OutOfRange, SecondStep, UnknownKind, WrongLength}
use Rattle.frames.specs.declared.faults.Layer.{Layer}
use Rattle.frames.specs.declared.faults.Layer.TheVariants as layer
use Rattle.frames.specs.declared.faults.LineFault.{LineFault}
use Rattle.frames.specs.declared.faults.LineFault.TheVariants.{Malformed, TooLong}

-- each fault's number
abbrev pub line_number : LineFault → ℕ
line_number (Malformed n) = 1
line_number TooLong = 16

abbrev pub frame_number : FrameFault → ℕ
frame_number (UnknownKind n) = 5
frame_number (WrongLength n) = 6
frame_number (NotDue n) = 7
frame_number (OutOfRange n) = 8
frame_number (Ended n) = 9
frame_number (SecondStep n) = 10

abbrev pub fault_number : Fault → ℕ
fault_number (Line why) = line_number why
fault_number (Frame why) = frame_number why

-- the line that has it; a deck that is too long has it at no line
abbrev pub fault_line : Fault → ℕ
fault_line (Line (Malformed n)) = n
fault_line (Line TooLong) = 0
fault_line (Frame (UnknownKind n)) = n
fault_line (Frame (WrongLength n)) = n
fault_line (Frame (NotDue n)) = n
fault_line (Frame (OutOfRange n)) = n
fault_line (Frame (Ended n)) = n
fault_line (Frame (SecondStep n)) = n

-- the number of a layer, and the layer that has the fault
abbrev pub layer_number : Layer → ℕ
layer_number layer.Line = 1
layer_number layer.Frame = 2
layer_number layer.Make = 3
layer_number layer.Check = 4

abbrev pub layer_of : Fault → Layer
layer_of (Line why) = layer.Line
layer_of (Frame why) = layer.Frame

abbrev pub fault_layer : Fault → ℕ
fault_layer why = layer_number (layer_of why)

-- the digit of a value below 16, as a character
unfoldable pub hex : ℕ → ℕ
hex v = cond (nat_lt v 10) (48 + v) (55 + v)

-- the line that these bytes are written as: two digits to a byte, and a line feed
abbrev pub written : List ℕ → List ℕ
written [] = line_feed ∷ []
written (b ∷ bs) = hex (b / 16) ∷ hex (b % 16) ∷ written bs

-- the reply that a fault of any layer becomes: 8F, the layer, the line in two bytes and the number
abbrev pub fault_reply : ℕ → ℕ → ℕ → List ℕ
fault_reply layer line number = written (0x8F ∷ layer ∷ line / 256 ∷ line % 256 ∷ number ∷ [])
