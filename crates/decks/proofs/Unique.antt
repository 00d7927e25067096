-- A text has one answer. Frames that a text spells are found from its front, so of two lists of sound frames one begins
-- the other, and where a fault stands no sound frame can go on. Assumes nothing.
use Rattle.std.proofs.Common.{◌≡◌, ℕ, suc, ◌-◌, ◌<◌, ◌≤◌, true, false, ◌&&◌, eqb, leb, ◌⊎◌, List, [], ◌∷◌, length, get_or, Some, Ok, Err, Result, sym, refl, ap, ◌∙◌, subst, inl, inr, ⊎_elim, arith, length-append}
use Rattle.std.proofs.lemmas.Bool.{cases_eq, cases_lt, cases_order, cond-false, cond-true, ne_eqb, true≢false}
use Rattle.std.proofs.lemmas.Bool.Decides.{nat_tests}
use Rattle.decks.specs.Decks.{Agree, Broken, Faults, Follows, IsFrame, Reads, Sound, Spells, Tells, most_bytes, stage}
use Rattle.frames.specs.Digits.{byte_at}
use Rattle.frames.specs.Frames.{Frame, frame_at, line_lengths, of_line, with_rest}
use Rattle.frames.specs.Lines.{BeginsWith, NoLine, first_line, line_feed}
use Rattle.decks.specs.Order.{State, complete, due, frame_fault, in_range, moved, second}
use Rattle.decks.specs.Reader.{judged, next, taken}
use Rattle.decks.specs.Said.{Said, said, says}
use Rattle.decks.specs.declared.deck.Deck.{Deck}
use Rattle.frames.specs.declared.faults.Fault.{Fault}
use Rattle.frames.specs.declared.faults.Fault.TheVariants as fault
use Rattle.frames.specs.declared.faults.FrameFault.{FrameFault}
use Rattle.frames.specs.declared.faults.FrameFault.TheVariants.{Ended, NotDue, OutOfRange, SecondStep, UnknownKind, WrongLength}
use Rattle.frames.specs.declared.faults.LineFault.{LineFault}
use Rattle.frames.specs.declared.faults.LineFault.TheVariants.{Malformed, TooLong}
use Rattle.decks.specs.declared.unread.Unread.{Unread}
use Rattle.decks.specs.declared.unread.Unread.TheVariants.{Faulty, OutOfMemory}
use Rattle.frames.proofs.Found.{line_found, line_missing, line_there}
use Rattle.decks.proofs.Shapes.{state_of}
use Rattle.decks.proofs.Steps.{taken_less}

module _ (fs : List Frame) (text : List ℕ) (n : ℕ) where
  with_line : (l rest : List ℕ) → BeginsWith text l rest → next (state_of fs) text n ≡ taken (state_of fs) n (with_rest rest (frame_at l n))
  with_line l rest begins = ap (λ r. taken (state_of fs) n (of_line n r)) (line_there text n l rest begins)

  with_frame : (l rest : List ℕ) (f : Frame) → BeginsWith text l rest → IsFrame l f → next (state_of fs) text n ≡ judged (state_of fs) n (f, rest) (frame_fault (state_of fs) f n)
  with_frame l rest f begins is = with_line l rest begins ∙ ap (λ r. taken (state_of fs) n (with_rest rest r)) (is n)

  -- a sound frame is taken
  follows_next : (l rest : List ℕ) (f : Frame) → BeginsWith text l rest → IsFrame l f → Follows fs f → next (state_of fs) text n ≡ Ok (moved (state_of fs) f, rest)
  follows_next l rest f begins is next_one =
      with_frame l rest f begins is
      ∙ ap (judged (state_of fs) n (f, rest)) (cond-true (due (stage fs) f) _ _ next_one.due ∙ cond-true (in_range (stage fs) (said fs) f) _ _ next_one.in_range ∙ cond-false (second (said fs) f) _ _ next_one.first_step)

  frame_refused : (l rest : List ℕ) (f : Frame) (why : FrameFault) → BeginsWith text l rest → IsFrame l f → frame_fault (state_of fs) f n ≡ Some why → next (state_of fs) text n ≡ Err (fault.Frame why)
  frame_refused l rest f why begins is h = with_frame l rest f begins is ∙ ap (judged (state_of fs) n (f, rest)) h

  line_refused : (l rest : List ℕ) (why : FrameFault) → BeginsWith text l rest → frame_at l n ≡ Err why → next (state_of fs) text n ≡ Err (fault.Frame why)
  line_refused l rest why begins h = with_line l rest begins ∙ ap (λ r. taken (state_of fs) n (with_rest rest r)) h

  no_line : NoLine text → (r : Result (List ℕ × List ℕ) LineFault) → first_line text n ≡ r → r ≡ Err (Malformed n)
  no_line none (Ok p) h = absurd (none p.0 p.1 (line_found text n p.0 p.1 h))
  no_line none (Err x) h = ap Err (line_missing text n x h).0

-- a fault that stands at the next line is the answer there
faults_next : (fs : List Frame) (text : List ℕ) (why : Fault) → Faults fs text why → 0 < length text → next (state_of fs) text (suc (length fs)) ≡ Err why
faults_next fs text (fault.Line (Malformed n)) (count, more, none) some =
    ap (λ r. taken (state_of fs) (suc (length fs)) (of_line (suc (length fs)) r)) (no_line fs text (suc (length fs)) none (first_line text (suc (length fs))) refl)
    ∙ ap (λ k. Err (fault.Line (Malformed k))) (sym count)
faults_next fs text (fault.Line TooLong) h some = absurd h
faults_next fs text (fault.Frame (UnknownKind n)) (count, (l, rest, begins, unknown)) some =
    let other : (leb 1 (byte_at l 0) && leb (byte_at l 0) 6) ≡ false = grind (arith, nat_tests) in
    line_refused fs text (suc (length fs)) l rest _ begins (cond-false (leb 1 (byte_at l 0) && leb (byte_at l 0) 6) _ _ other)
    ∙ ap (λ k. Err (fault.Frame (UnknownKind k))) (sym count)
faults_next fs text (fault.Frame (WrongLength n)) (count, (l, rest, begins, (is, wrong))) some =
    let known : (leb 1 (byte_at l 0) && leb (byte_at l 0) 6) ≡ true = grind (arith, nat_tests) in
    let long = ne_eqb (length l) (get_or line_lengths (byte_at l 0 - 1) 0) wrong in
    line_refused fs text (suc (length fs)) l rest _ begins (cond-true (leb 1 (byte_at l 0) && leb (byte_at l 0) 6) _ _ known ∙ cond-false (eqb (length l) (get_or line_lengths (byte_at l 0 - 1) 0)) _ _ long)
    ∙ ap (λ k. Err (fault.Frame (WrongLength k))) (sym count)
faults_next fs text (fault.Frame (NotDue n)) (count, (l, rest, begins, (f, is, a))) some =
    frame_refused fs text (suc (length fs)) l rest f _ begins is (cond-false (due (stage fs) f) _ _ a)
    ∙ ap (λ k. Err (fault.Frame (NotDue k))) (sym count)
faults_next fs text (fault.Frame (OutOfRange n)) (count, (l, rest, begins, (f, is, (a, b)))) some =
    frame_refused fs text (suc (length fs)) l rest f _ begins is (cond-true (due (stage fs) f) _ _ a ∙ cond-false (in_range (stage fs) (said fs) f) _ _ b)
    ∙ ap (λ k. Err (fault.Frame (OutOfRange k))) (sym count)
faults_next fs text (fault.Frame (Ended n)) (count, none, cut) some = absurd (omega (arith, ap length none))
faults_next fs text (fault.Frame (SecondStep n)) (count, (l, rest, begins, (f, is, (a, b, c)))) some =
    frame_refused fs text (suc (length fs)) l rest f _ begins is (cond-true (due (stage fs) f) _ _ a ∙ cond-true (in_range (stage fs) (said fs) f) _ _ b ∙ cond-true (second (said fs) f) _ _ c)
    ∙ ap (λ k. Err (fault.Frame (SecondStep k))) (sym count)

-- lists of frames of one length that a text spells are the same
spells_once : (fs gs : List Frame) (text rest after : List ℕ) → length fs ≡ length gs → Spells fs text rest → Spells gs text after → (fs ≡ gs) × (rest ≡ after)
spells_once [] [] text rest after long h k = (refl, sym h ∙ k)
spells_once [] (g ∷ gs) text rest after long h k = absurd (omega arith)
spells_once (f ∷ fs) [] text rest after long h k = absurd (omega arith)
spells_once (f ∷ fs) (g ∷ gs) text rest after long (more, h, (l, begins, is)) (also, k, (m, starts, means)) =
    let (front, same) = spells_once fs gs text more also (omega arith) h k in
    let pair : ◌≡◌ {A = Result (List ℕ × List ℕ) LineFault} (Ok (l, rest)) (Ok (m, after)) = sym (line_there more 0 l rest begins) ∙ ap (λ t. first_line t 0) same ∙ line_there also 0 m after starts in
    let both : ◌≡◌ {A = List ℕ × List ℕ} (l, rest) (m, after) = cc in
    let frame : ◌≡◌ {A = Result Frame FrameFault} (Ok f) (Ok g) = sym (is 0) ∙ ap (λ p. frame_at p.0 0) both ∙ means 0 in
    (cc, ap (λ p. p.1) both)

-- sound frames of which the text goes on with a further one
record GoesOn (text : List ℕ) (n : ℕ) : Type 0 where
  pub frames : List Frame
  pub more : List ℕ
  pub count : length frames ≡ n
  pub spelt : Spells frames text more
  pub frame : Frame
  pub line : List ℕ
  pub rest : List ℕ
  pub begins : BeginsWith more line rest
  pub is : IsFrame line frame
  pub follows : Follows frames frame

older : (gs : List Frame) (n : ℕ) (text rest : List ℕ) → n < length gs → Spells gs text rest → Sound gs → GoesOn text n
older [] n text rest low h sound = absurd (omega arith)
older (g ∷ gs) n text rest low (more, h, (l, begins, is)) (sound, follows) =
    ⊎_elim
    (λ here.
    record {
      frames = gs;
      more = more;
      count = sym here;
      spelt = h;
      frame = g;
      line = l;
      rest = rest;
      begins = begins;
      is = is;
      follows = follows;
    })
    (λ earlier. older gs n text more (omega arith) h sound)
    (cases_eq n (length gs))

-- no sound frame goes on after these
abbrev Stops : List Frame → List ℕ → Type 0
Stops fs rest = (t : State) (after : List ℕ) → next (state_of fs) rest (suc (length fs)) ≡ Ok (t, after) → ⊥

-- so no longer list of sound frames is spelt
at_most : (text : List ℕ) (fs gs : List Frame) (rest after : List ℕ) → Spells fs text rest → Stops fs rest → Spells gs text after → Sound gs → length fs < length gs → ⊥
at_most text fs gs rest after h stops k sound low =
    let on = older gs (length fs) text after low k sound in
    let (same, left) = spells_once fs on.frames text rest on.more (sym on.count) h on.spelt in
    let further = follows_next on.frames on.more (suc (length fs)) on.line on.rest on.frame on.begins on.is on.follows in
    stops _ _ (ap (λ s. next (state_of s) rest (suc (length fs))) same ∙ ap (λ t. next (state_of on.frames) t (suc (length fs))) left ∙ further)

same_end : (text : List ℕ) (fs gs : List Frame) (rest after : List ℕ) → Spells fs text rest → Sound fs → Stops fs rest → Spells gs text after → Sound gs → Stops gs after → (fs ≡ gs) × (rest ≡ after)
same_end text fs gs rest after h sound stops k also ends =
    ⊎_elim (λ long. spells_once fs gs text rest after long h k)
    (⊎_elim (λ low. absurd (at_most text fs gs rest after h stops k also low)) (λ high. absurd (at_most text gs fs after rest k ends h sound high)))
    (cases_order (length fs) (length gs))

stops_empty : (fs : List Frame) (rest : List ℕ) → length rest ≤ 0 → Stops fs rest
stops_empty fs rest none t after h = omega (arith, taken_less (state_of fs) (suc (length fs)) rest t after h)

stops_fault : (fs : List Frame) (rest : List ℕ) (why : Fault) → Faults fs rest why → Stops fs rest
stops_fault fs rest why bad t after h =
    ⊎_elim (λ some. cc (faults_next fs rest why bad some)) (λ none. stops_empty fs rest none t after h) (cases_lt 0 (length rest))

-- at the end of a text the only fault is a deck that ends too soon
begins_some : (l rest : List ℕ) → BeginsWith [] l rest → ⊥
begins_some l rest (is, e) = omega (arith, ap length e, length-append l (line_feed ∷ rest))

at_end : (fs : List Frame) (why : Fault) → Faults fs [] why → (why ≡ fault.Frame (Ended (suc (length fs)))) × (complete (stage fs) ≡ false)
at_end fs (fault.Line (Malformed n)) (count, some, none) = absurd (omega arith)
at_end fs (fault.Line TooLong) h = absurd h
at_end fs (fault.Frame (UnknownKind n)) (count, (l, rest, begins, h)) = absurd (begins_some l rest begins)
at_end fs (fault.Frame (WrongLength n)) (count, (l, rest, begins, h)) = absurd (begins_some l rest begins)
at_end fs (fault.Frame (NotDue n)) (count, (l, rest, begins, h)) = absurd (begins_some l rest begins)
at_end fs (fault.Frame (OutOfRange n)) (count, (l, rest, begins, h)) = absurd (begins_some l rest begins)
at_end fs (fault.Frame (Ended n)) (count, none, cut) = (ap (λ k. fault.Frame (Ended k)) count, cut)
at_end fs (fault.Frame (SecondStep n)) (count, (l, rest, begins, h)) = absurd (begins_some l rest begins)

fault_once : (fs : List Frame) (rest : List ℕ) (why other : Fault) → Faults fs rest why → Faults fs rest other → why ≡ other
fault_once fs [] why other a b = (at_end fs why a).0 ∙ sym (at_end fs other b).0
fault_once fs (x ∷ rest) why other a b = cc (faults_next fs (x ∷ rest) why a (omega arith), faults_next fs (x ∷ rest) other b (omega arith))

pub tells_once : (text : List ℕ) (x y : Said) → Tells text x → Tells text y → x ≡ y
tells_once text x y a b =
    let (same, end) = same_end text a.frames b.frames [] [] a.spelt a.sound (stops_empty _ [] (omega arith)) b.spelt b.sound (stops_empty _ [] (omega arith)) in
    a.yields ∙ ap said same ∙ sym b.yields

tells_or_broken : (text : List ℕ) (x : Said) (why : Fault) → Tells text x → Broken text why → ⊥
tells_or_broken text x why a b =
    let (same, end) = same_end text a.frames b.frames [] b.rest a.spelt a.sound (stops_empty _ [] (omega arith)) b.spelt b.sound (stops_fault _ _ why b.first) in
    let early = (at_end b.frames why (subst (λ t. Faults b.frames t why) (sym end) b.first)).1 in
    true≢false (sym a.done ∙ ap (λ fs. complete (stage fs)) same ∙ early)

broken_once : (text : List ℕ) (why other : Fault) → Broken text why → Broken text other → why ≡ other
broken_once text why other a b =
    let (same, end) = same_end text a.frames b.frames a.rest b.rest a.spelt a.sound (stops_fault _ _ why a.first) b.spelt b.sound (stops_fault _ _ other b.first) in
    fault_once a.frames a.rest why other a.first (subst (λ t. Faults a.frames t other) (sym end) (subst (λ fs. Faults fs b.rest other) (sym same) b.first))

long_or_broken : (text : List ℕ) (why : Fault) → Reads text (Err (Faulty why)) → Broken text why ⊎ ((why ≡ fault.Line TooLong) × (most_bytes < length text))
long_or_broken text (fault.Line (Malformed n)) h = inl h
long_or_broken text (fault.Line TooLong) h = inr (refl, h)
long_or_broken text (fault.Frame x) h = inl h

pub faulty_once : (text : List ℕ) (why other : Fault) → Reads text (Err (Faulty why)) → Reads text (Err (Faulty other)) → why ≡ other
faulty_once text why other h k =
    ⊎_elim
    (λ a. ⊎_elim (λ b. broken_once text why other a b) (λ b. absurd (omega (arith, a.few, b.1))) (long_or_broken text other k))
    (λ a. ⊎_elim (λ b. absurd (omega (arith, b.few, a.1))) (λ b. a.0 ∙ sym b.0) (long_or_broken text other k))
    (long_or_broken text why h)

pub tells_or_faulty : (text : List ℕ) (x : Said) (why : Fault) → Tells text x → Reads text (Err (Faulty why)) → ⊥
tells_or_faulty text x why h k =
    ⊎_elim (λ b. tells_or_broken text x why h b) (λ b. omega (arith, h.few, b.1)) (long_or_broken text why k)

pub reads_once : (text : List ℕ) (r s : Result Deck Unread) → Reads text r → Reads text s → Agree r s
reads_once text (Ok d) (Ok e) h k = tells_once text (says d) (says e) h k
reads_once text (Ok d) (Err (Faulty why)) h k = tells_or_faulty text (says d) why h k
reads_once text (Ok d) (Err OutOfMemory) h k = tt
reads_once text (Err (Faulty why)) (Ok e) h k = tells_or_faulty text (says e) why k h
reads_once text (Err (Faulty why)) (Err (Faulty other)) h k = faulty_once text why other h k
reads_once text (Err (Faulty why)) (Err OutOfMemory) h k = tt
reads_once text (Err OutOfMemory) s h k = tt
