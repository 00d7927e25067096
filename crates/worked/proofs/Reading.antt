-- Reading a deck that is given line by line, by computing: each line is a line and a frame, and the frame may follow
-- those before it. Where this comes to an end, the text tells what the frames say. Assumes nothing.
use Rattle.std.proofs.Common.{◌≡◌, ℕ, ◌-◌, ◌%◌, Bool, true, false, cond, not, ◌&&◌, eqb, leb, List, [], ◌∷◌, length, get_or, drop, Some, None, Ok, Err, Option, Result, refl, subst, arith}
use Rattle.std.proofs.lemmas.Bool.{and_parts, eqb-true, leb-true, not-true}
use Rattle.frames.specs.Digits.{byte_at, digital}
use Rattle.frames.specs.Frames.{Frame, frame_at, frame_of, line_lengths}
use Rattle.frames.specs.Lines.{Digits, Line}
use Rattle.frames.specs.declared.faults.FrameFault.{FrameFault}
use Rattle.frames.specs.declared.faults.FrameFault.TheVariants.{UnknownKind, WrongLength}
use Rattle.decks.specs.Decks.{Follows, IsFrame, Sound, Spells, Tells, most_bytes, stage}
use Rattle.decks.specs.Order.{complete, due, in_range, second}
use Rattle.decks.specs.Said.{said}
use Rattle.decks.proofs.Shapes.{sound_order}
use Rattle.worked.specs.Cases.{lines}

-- a line, as a test
abbrev all_digital : List ℕ → Bool
all_digital [] = true
all_digital (d ∷ ds) = digital d && all_digital ds

abbrev is_line : List ℕ → Bool
is_line l = all_digital l && (leb 2 (length l) && (leb (length l) 64 && eqb (length l % 2) 0))

digits_are : (l : List ℕ) → all_digital l ≡ true → Digits l
digits_are [] h = tt
digits_are (d ∷ ds) h = let (here, more) = and_parts (digital d) (all_digital ds) h in (here, digits_are ds more)

line_is : (l : List ℕ) → is_line l ≡ true → Line l
line_is l h =
    let (digits, size) = and_parts (all_digital l) _ h in
    let (low, rest) = and_parts (leb 2 (length l)) _ size in
    let (high, even) = and_parts (leb (length l) 64) (eqb (length l % 2) 0) rest in
    record { digits = digits_are l digits; low = leb-true 2 (length l) low; high = leb-true (length l) 64 high; even = eqb-true (length l % 2) 0 even }

-- what frame a line is does not depend on its number
whatever_number : (known long : Bool) (x f : Frame) (n : ℕ) → ◌≡◌ {A = Result Frame FrameFault} (cond known (cond long (Ok x) (Err (WrongLength 0))) (Err (UnknownKind 0))) (Ok f)
    → ◌≡◌ {A = Result Frame FrameFault} (cond known (cond long (Ok x) (Err (WrongLength n))) (Err (UnknownKind n))) (Ok f)
whatever_number true true x f n h = h
whatever_number true false x f n h = let z : ◌≡◌ {A = ℕ} 0 1 = cc in absurd (omega arith)
whatever_number false long x f n h = let z : ◌≡◌ {A = ℕ} 0 1 = cc in absurd (omega arith)

frame_is : (l : List ℕ) (f : Frame) → frame_at l 0 ≡ Ok f → IsFrame l f
frame_is l f h number =
    whatever_number (leb 1 (byte_at l 0) && leb (byte_at l 0) 6) (eqb (length l) (get_or line_lengths (byte_at l 0 - 1) 0)) (frame_of (byte_at l 0) (drop 2 l)) f number h

-- the frame f may follow the frames fs
abbrev may_follow : List Frame → Frame → Bool
may_follow fs f = due (stage fs) f && (in_range (stage fs) (said fs) f && not (second (said fs) f))

follows_is : (fs : List Frame) (f : Frame) → may_follow fs f ≡ true → Follows fs f
follows_is fs f h =
    let (kind, values) = and_parts (due (stage fs) f) _ h in
    let (range, first) = and_parts (in_range (stage fs) (said fs) f) (not (second (said fs) f)) values in
    record { due = kind; in_range = range; first_step = not-true (second (said fs) f) first }

-- the frames of these lines, after the frames fs
abbrev with_frame : Result Frame FrameFault → (Frame → Option (List Frame)) → Option (List Frame)
with_frame (Ok f) next = next f
with_frame (Err why) next = None

abbrev pub read_lines : List Frame → List (List ℕ) → Option (List Frame)
read_lines fs [] = Some fs
read_lines fs (l ∷ ls) =
    cond (is_line l) (with_frame (frame_at l 0) (λ f. cond (may_follow fs f) (read_lines (f ∷ fs) ls) None)) None

if_some : (t : Bool) (o : Option (List Frame)) (gs : List Frame) → cond t o None ≡ Some gs → (t ≡ true) × (o ≡ Some gs)
if_some true o gs h = (refl, h)
if_some false o gs h = let z : ◌≡◌ {A = ℕ} 0 1 = cc in absurd (omega arith)

frame_some : (r : Result Frame FrameFault) (next : Frame → Option (List Frame)) (gs : List Frame) → with_frame r next ≡ Some gs → (f : Frame) × (r ≡ Ok f) × (next f ≡ Some gs)
frame_some (Ok f) next gs h = (f, refl, h)
frame_some (Err why) next gs h = let z : ◌≡◌ {A = ℕ} 0 1 = cc in absurd (omega arith)

-- the frames that are read are spelt and sound
read_sound : (ls : List (List ℕ)) (text : List ℕ) (fs gs : List Frame) → read_lines fs ls ≡ Some gs → Spells fs text (lines ls) → Sound fs → Spells gs text [] × Sound gs
read_sound [] text fs gs h spelt sound = let same : fs ≡ gs = cc in subst (λ l. Spells l text [] × Sound l) same (spelt, sound)
read_sound (l ∷ ls) text fs gs h spelt sound =
    let (line, framed) = if_some (is_line l) _ gs h in
    let (f, is, followed) = frame_some (frame_at l 0) (λ x. cond (may_follow fs x) (read_lines (x ∷ fs) ls) None) gs framed in
    let (follows, more) = if_some (may_follow fs f) (read_lines (f ∷ fs) ls) gs followed in
    read_sound ls text (f ∷ fs) gs more (lines (l ∷ ls), spelt, (l, (line_is l line, refl), frame_is l f is)) (sound, follows_is fs f follows)

pub read_tells : (ls : List (List ℕ)) (fs : List Frame) → read_lines [] ls ≡ Some fs → complete (stage fs) ≡ true → leb (length (lines ls)) most_bytes ≡ true → Tells (lines ls) (said fs)
read_tells ls fs h done few =
    let (spelt, sound) = read_sound ls (lines ls) [] fs h refl tt in
    record {
      few = leb-true (length (lines ls)) most_bytes few;
      frames = fs;
      spelt = spelt;
      sound = sound;
      in_order = sound_order fs sound done;
      done = done;
      yields = refl;
    }
