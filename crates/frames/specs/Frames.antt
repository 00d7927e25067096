-- Frames: what the digits of a line say. The first byte is the kind, and what follows it is one byte for a value and four
-- for a mask. Assumes nothing.
use Rattle.std.specs.Prelude.{◌≡◌, ℕ, ◌-◌, ◌≤◌, cond, ◌&&◌, List, [], ◌∷◌, length, drop, Ok, Err, Result, MatchResult, ◌==◌, nat_le, slice_index}
use Rattle.std.specs.Borrow.{Bor}
use Rattle.frames.specs.Digits.{byte_at, mask_at}
use Rattle.frames.specs.Lines.{first_line}
use Rattle.frames.specs.declared.faults.Fault.{Fault}
use Rattle.frames.specs.declared.faults.Fault.TheVariants as fault
use Rattle.frames.specs.declared.faults.FrameFault.{FrameFault}
use Rattle.frames.specs.declared.faults.FrameFault.TheVariants.{UnknownKind, WrongLength}
use Rattle.frames.specs.declared.faults.LineFault.{LineFault}
use Rattle.frames.specs.declared.frame.Frame.{Frame as Borrowed}
use Rattle.frames.specs.declared.frame.Frame.TheVariants as borrowed
use Rattle.frames.specs.declared.kind.Kind.{Kind}
use Rattle.frames.specs.declared.kind.Kind.TheVariants.{Header, Site, Table, Step, Counter, Play}
use Rattle.frames.specs.declared.kind.NotKind.{NotKind}

-- a frame's kind and values
pub data Frame : Type 0 where
  header : (events sites modes : ℕ) → Frame
  site : (number seen controlled : ℕ) → Frame
  table : (role count first alphabet : ℕ) → Frame
  step : (role from event to : ℕ) → Frame
  counter : (up down limit : ℕ) → Frame
  play : (event : ℕ) → Frame

-- the number of a frame's kind
abbrev pub kind : Frame → ℕ
kind (header e n m) = 1
kind (site i s c) = 2
kind (table r n q a) = 3
kind (step r p e q) = 4
kind (counter u d l) = 5
kind (play e) = 6

-- the number of a kind
abbrev pub kind_number : Kind → ℕ
kind_number Header = 1
kind_number Site = 2
kind_number Table = 3
kind_number Step = 4
kind_number Counter = 5
kind_number Play = 6

-- the kind that has this number, or none where no kind has it
abbrev pub Decodes : ℕ → Result Kind NotKind → Type 0
Decodes k r = MatchResult r (λ x. kind_number x ≡ k) (λ _. (1 ≤ k) × (k ≤ 6) → ⊥)

-- how many digits a line has, by the number of its kind
abbrev pub line_lengths : List ℕ
line_lengths = 14 ∷ 20 ∷ 16 ∷ 10 ∷ 8 ∷ 4 ∷ []

-- what the digits after the kind say
abbrev pub header_of : List ℕ → Frame
header_of ds = header (byte_at ds 0) (byte_at ds 1) (mask_at ds 2)

abbrev pub site_of : List ℕ → Frame
site_of ds = site (byte_at ds 0) (mask_at ds 1) (mask_at ds 5)

abbrev pub table_of : List ℕ → Frame
table_of ds = table (byte_at ds 0) (byte_at ds 1) (byte_at ds 2) (mask_at ds 3)

abbrev pub step_of : List ℕ → Frame
step_of ds = step (byte_at ds 0) (byte_at ds 1) (byte_at ds 2) (byte_at ds 3)

abbrev pub counter_of : List ℕ → Frame
counter_of ds = counter (byte_at ds 0) (byte_at ds 1) (byte_at ds 2)

abbrev pub play_of : List ℕ → Frame
play_of ds = play (byte_at ds 0)

abbrev pub frame_of : ℕ → List ℕ → Frame
frame_of k ds =
    cond (k == 1) (header_of ds)
    (cond (k == 2) (site_of ds) (cond (k == 3) (table_of ds) (cond (k == 4) (step_of ds) (cond (k == 5) (counter_of ds) (play_of ds)))))

-- the frame that the digits of a line are, or the fault of that line: an unknown kind, or else a wrong length
abbrev pub frame_at : List ℕ → ℕ → Result Frame FrameFault
frame_at ds number =
    cond (nat_le 1 (byte_at ds 0) && nat_le (byte_at ds 0) 6)
    (cond (length ds == slice_index line_lengths (byte_at ds 0 - 1)) (Ok (frame_of (byte_at ds 0) (drop 2 ds))) (Err (WrongLength number)))
    (Err (UnknownKind number))

-- the frame of the first line and the text after it, or the fault of that line
abbrev pub with_rest : List ℕ → Result Frame FrameFault → Result (Frame × List ℕ) Fault
with_rest rest (Ok f) = Ok (f, rest)
with_rest rest (Err why) = Err (fault.Frame why)

abbrev pub of_line : ℕ → Result (List ℕ × List ℕ) LineFault → Result (Frame × List ℕ) Fault
of_line number (Ok p) = with_rest p.1 (frame_at p.0 number)
of_line number (Err why) = Err (fault.Line why)

abbrev pub read_frame : List ℕ → ℕ → Result (Frame × List ℕ) Fault
read_frame text number = of_line number (first_line text number)

-- what a borrowed frame says
abbrev pub content : Borrowed → Frame
content (borrowed.Header p) = header_of p.digits.now
content (borrowed.Site p) = site_of p.digits.now
content (borrowed.Table p) = table_of p.digits.now
content (borrowed.Step p) = step_of p.digits.now
content (borrowed.Counter p) = counter_of p.digits.now
content (borrowed.Play p) = play_of p.digits.now

-- and the number of its line
abbrev pub number_of : Borrowed → ℕ
number_of (borrowed.Header p) = p.line
number_of (borrowed.Site p) = p.line
number_of (borrowed.Table p) = p.line
number_of (borrowed.Step p) = p.line
number_of (borrowed.Counter p) = p.line
number_of (borrowed.Play p) = p.line

abbrev pub opened : Result Borrowed FrameFault → Result Frame FrameFault
opened (Ok f) = Ok (content f)
opened (Err why) = Err why

abbrev pub contents : Result (Borrowed × Bor (List ℕ)) Fault → Result (Frame × List ℕ) Fault
contents (Ok p) = Ok (content p.0, p.1.now)
contents (Err why) = Err why
