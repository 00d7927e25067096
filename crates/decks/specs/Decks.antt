-- What a deck means: the frames that its text spells, in the stated order, and the first line that has a fault. Lists of
-- frames have the NEWEST FIRST, so that f ∷ fs are the frames fs with the frame f after them. Assumes nothing.
use Rattle.std.specs.Prelude.{◌≡◌, ℕ, zero, suc, ◌-◌, ◌<◌, ◌≤◌, true, false, ◌⊎◌, List, [], ◌∷◌, ◌++◌, length, Ok, Err, Result, ◌≢◌, slice_index}
use Rattle.std.specs.List.{AllByRecursion}
use Rattle.frames.specs.Digits.{byte_at}
use Rattle.frames.specs.Frames.{Frame, header, site, table, step, counter, play, frame_at, line_lengths}
use Rattle.frames.specs.Lines.{BeginsWith, NoLine}
use Rattle.decks.specs.Order.{after, complete, due, in_range, second}
use Rattle.decks.specs.Said.{Said, said, says}
use Rattle.decks.specs.declared.deck.Deck.{Deck}
use Rattle.frames.specs.declared.faults.Fault.{Fault}
use Rattle.frames.specs.declared.faults.Fault.TheVariants as fault
use Rattle.frames.specs.declared.faults.FrameFault.TheVariants.{Ended, NotDue, OutOfRange, SecondStep, UnknownKind, WrongLength}
use Rattle.frames.specs.declared.faults.LineFault.TheVariants.{Malformed, TooLong}
use Rattle.decks.specs.declared.unread.Unread.{Unread}
use Rattle.decks.specs.declared.unread.Unread.TheVariants.{Faulty, OutOfMemory}
use Rattle.decks.specs.declared.stage.Stage.{Stage}
use Rattle.decks.specs.declared.stage.Stage.TheVariants.{Header}

-- the digits l are a line of the frame f
abbrev pub IsFrame : List ℕ → Frame → Type 0
IsFrame l f = (number : ℕ) → frame_at l number ≡ Ok f

-- the text is the lines of these frames, and then rest
abbrev pub Spells : List Frame → List ℕ → List ℕ → Type 0
Spells [] text rest = text ≡ rest
Spells (f ∷ fs) text rest = (more : List ℕ) × Spells fs text more × ((l : List ℕ) × BeginsWith more l rest × IsFrame l f)

-- what may follow these frames
abbrev pub stage : List Frame → Stage
stage [] = Header
stage (f ∷ fs) = after (said fs).sites (stage fs) f

-- after the frames fs the frame f is due, its values are in range, and it is no second step
pub record Follows (fs : List Frame) (f : Frame) : Type 0 where
  pub due : due (stage fs) f ≡ true
  pub in_range : in_range (stage fs) (said fs) f ≡ true
  pub first_step : second (said fs) f ≡ false

-- none of these frames has a fault
abbrev pub Sound : List Frame → Type 0
Sound [] = Unit {0}
Sound (f ∷ fs) = Sound fs × Follows fs f

-- the kinds of frame, with their numbers and roles
abbrev pub IsHeader : ℕ → Frame → Type 0
IsHeader n f = (e m : ℕ) × (f ≡ header e n m)

abbrev pub IsSite : ℕ → Frame → Type 0
IsSite i f = (s c : ℕ) × (f ≡ site i s c)

abbrev pub IsTable : ℕ → Frame → Type 0
IsTable r f = (n q a : ℕ) × (f ≡ table r n q a)

abbrev pub IsStep : ℕ → Frame → Type 0
IsStep r f = (p e q : ℕ) × (f ≡ step r p e q)

abbrev pub IsCounter : Frame → Type 0
IsCounter f = (u d l : ℕ) × (f ≡ counter u d l)

abbrev pub IsPlay : Frame → Type 0
IsPlay f = (e : ℕ) × (f ≡ play e)

-- one frame that is P, and before it Q
abbrev pub One : (Frame → Type 0) → (List Frame → Type 0) → List Frame → Type 0
One P Q fs = (f : Frame) × (old : List Frame) × (fs ≡ f ∷ old) × P f × Q old

-- any number of frames that are each P, and before them Q
abbrev pub Any : (Frame → Type 0) → (List Frame → Type 0) → List Frame → Type 0
Any P Q fs = (new : List Frame) × (old : List Frame) × (fs ≡ new ++ old) × AllByRecursion P new × Q old

abbrev pub AtMostOne : (Frame → Type 0) → (List Frame → Type 0) → List Frame → Type 0
AtMostOne P Q fs = Q fs ⊎ One P Q fs

-- the sites k to 1, and before them the header of a deck with n sites
abbrev pub SitesAfter : ℕ → ℕ → List Frame → Type 0
SitesAfter n zero = One (IsHeader n) (λ fs. fs ≡ [])
SitesAfter n (suc k) = One (IsSite (suc k)) (SitesAfter n k)

abbrev pub AllSites : List Frame → Type 0
AllSites fs = (n : ℕ) × SitesAfter n n fs

-- the plant's steps, and before them its table
abbrev pub PlantRead : List Frame → Type 0
PlantRead = Any (IsStep 0) (One (IsTable 0) AllSites)

-- the specification's steps, before them its table, and before it at most one counter
abbrev pub SpecRead : List Frame → Type 0
SpecRead = Any (IsStep 1) (One (IsTable 1) (AtMostOne IsCounter PlantRead))

-- the stated order of a whole deck: last of all the events to play
abbrev pub InOrder : List Frame → Type 0
InOrder = Any IsPlay SpecRead

-- the line after fs, with its digits, or with the frame that it is
abbrev pub NextLine : List ℕ → (List ℕ → Type 0) → Type 0
NextLine text P = (l : List ℕ) × (rest : List ℕ) × BeginsWith text l rest × P l

abbrev pub NextFrame : List ℕ → (Frame → Type 0) → Type 0
NextFrame text P = NextLine text (λ l. (f : Frame) × IsFrame l f × P f)

-- a kind that there is
abbrev pub Known : List ℕ → Type 0
Known l = (1 ≤ byte_at l 0) × (byte_at l 0 ≤ 6)

-- After the frames fs, the text that is left begins with a line that has this fault, or ends too soon.
abbrev pub Faults : List Frame → List ℕ → Fault → Type 0
Faults fs text (fault.Line (Malformed n)) = (n ≡ suc (length fs)) × (0 < length text) × NoLine text
Faults fs text (fault.Line TooLong) = ⊥
Faults fs text (fault.Frame (UnknownKind n)) = (n ≡ suc (length fs)) × NextLine text (λ l. Known l → ⊥)
Faults fs text (fault.Frame (WrongLength n)) =
    (n ≡ suc (length fs)) × NextLine text (λ l. Known l × (length l ≢ slice_index line_lengths (byte_at l 0 - 1)))
Faults fs text (fault.Frame (NotDue n)) = (n ≡ suc (length fs)) × NextFrame text (λ f. due (stage fs) f ≡ false)
Faults fs text (fault.Frame (OutOfRange n)) =
    (n ≡ suc (length fs)) × NextFrame text (λ f. (due (stage fs) f ≡ true) × (in_range (stage fs) (said fs) f ≡ false))
Faults fs text (fault.Frame (Ended n)) = (n ≡ suc (length fs)) × (text ≡ []) × (complete (stage fs) ≡ false)
Faults fs text (fault.Frame (SecondStep n)) =
    (n ≡ suc (length fs))
    × NextFrame text (λ f. (due (stage fs) f ≡ true) × (in_range (stage fs) (said fs) f ≡ true) × (second (said fs) f ≡ true))

-- how many bytes a deck may have
abbrev pub most_bytes : ℕ
most_bytes = 16384

-- The text spells sound frames in the stated order, and x is what they say.
pub record Tells (text : List ℕ) (x : Said) : Type 0 where
  pub few : length text ≤ most_bytes
  pub frames : List Frame
  pub spelt : Spells frames text []
  pub sound : Sound frames
  pub in_order : InOrder frames
  pub done : complete (stage frames) ≡ true
  pub yields : x ≡ said frames

-- The text spells sound frames up to the line that has the fault.
pub record Broken (text : List ℕ) (why : Fault) : Type 0 where
  pub few : length text ≤ most_bytes
  pub frames : List Frame
  pub rest : List ℕ
  pub spelt : Spells frames text rest
  pub sound : Sound frames
  pub first : Faults frames rest why

-- what reading a text answers, want of memory aside
abbrev pub Reads : List ℕ → Result Deck Unread → Type 0
Reads text (Ok d) = Tells text (says d)
Reads text (Err (Faulty (fault.Line TooLong))) = most_bytes < length text
Reads text (Err (Faulty (fault.Line (Malformed n)))) = Broken text (fault.Line (Malformed n))
Reads text (Err (Faulty (fault.Frame why))) = Broken text (fault.Frame why)
Reads text (Err OutOfMemory) = length text ≤ most_bytes

-- two answers to one text agree: in what the decks say, or in the fault, want of memory aside
abbrev pub Agree : Result Deck Unread → Result Deck Unread → Type 0
Agree (Ok d) (Ok e) = says d ≡ says e
Agree (Ok d) (Err (Faulty why)) = ⊥
Agree (Ok d) (Err OutOfMemory) = Unit {0}
Agree (Err (Faulty why)) (Ok e) = ⊥
Agree (Err (Faulty why)) (Err (Faulty other)) = why ≡ other
Agree (Err (Faulty why)) (Err OutOfMemory) = Unit {0}
Agree (Err OutOfMemory) s = Unit {0}

-- no other answer fits the text
abbrev pub Only : List ℕ → Result Deck Unread → Type 0
Only text r = (s : Result Deck Unread) → Reads text s → Agree r s
