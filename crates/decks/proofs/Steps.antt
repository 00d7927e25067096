-- One more frame of a text: where it is taken, the frames read so far stay sound and the text goes on after it, and where
-- it is refused, its line is the first that has a fault. Assumes nothing.
use Rattle.std.proofs.Common.{◌≡◌, ℕ, suc, ◌+◌, ◌-◌, ◌<◌, ◌≤◌, Bool, true, false, cond, ◌&&◌, eqb, leb, List, [], ◌∷◌, length, get_or, Some, None, Ok, Err, Option, Result, sym, refl, ap, ◌∙◌, subst, arith, length-append}
use Rattle.std.proofs.lemmas.Bool.{eqb-false}
use Rattle.std.proofs.lemmas.Bool.Decides.{nat_tests}
use Rattle.decks.specs.Decks.{Broken, Faults, IsFrame, Reads, Sound, Spells, most_bytes, stage}
use Rattle.frames.specs.Digits.{byte_at}
use Rattle.frames.specs.Frames.{Frame, frame_at, line_lengths, of_line, read_frame, with_rest}
use Rattle.frames.specs.Lines.{BeginsWith, first_line, line_feed}
use Rattle.decks.specs.Order.{State, complete, due, frame_fault, in_range, moved, second}
use Rattle.decks.specs.Reader.{Took, judged, next, taken}
use Rattle.decks.specs.Said.{said, says}
use Rattle.decks.specs.declared.deck.Deck.{Deck}
use Rattle.frames.specs.declared.faults.Fault.{Fault}
use Rattle.frames.specs.declared.faults.Fault.TheVariants as fault
use Rattle.frames.specs.declared.faults.FrameFault.{FrameFault}
use Rattle.frames.specs.declared.faults.FrameFault.TheVariants.{NotDue, OutOfRange, SecondStep, UnknownKind, WrongLength}
use Rattle.frames.specs.declared.faults.LineFault.{LineFault}
use Rattle.frames.specs.declared.faults.LineFault.TheVariants.{Malformed, TooLong}
use Rattle.decks.specs.declared.unread.Unread.{Unread}
use Rattle.decks.specs.declared.unread.Unread.TheVariants.{Faulty, OutOfMemory}
use Rattle.frames.proofs.Found.{line_found, line_missing}
use Rattle.decks.proofs.Shapes.{sound_order, state_of}

-- the text is the lines of sound frames, and then rest, which begins with line number
pub record Sofar (text : List ℕ) (t : State) (number : ℕ) (rest : List ℕ) : Type 0 where
  pub frames : List Frame
  pub spelt : Spells frames text rest
  pub sound : Sound frames
  pub now : t ≡ state_of frames
  pub count : number ≡ suc (length frames)
  pub left : number + length rest ≤ suc (length text)

-- how a text goes on with a frame that is read
frame_any : (l : List ℕ) (n : ℕ) (f : Frame) → frame_at l n ≡ Ok f → IsFrame l f
frame_any l n f h number = grind (arith, nat_tests)

with_rest_ok : (rest : List ℕ) (r : Result Frame FrameFault) (f : Frame) (after : List ℕ) → with_rest rest r ≡ Ok (f, after) → (r ≡ Ok f) × (rest ≡ after)
with_rest_ok rest (Ok g) f after h =
    let same : ◌≡◌ {A = Frame × List ℕ} (g, rest) (f, after) = cc in
    (ap (λ q. Ok q.0) same, ap (λ q. q.1) same)
with_rest_ok rest (Err why) f after h = cc

of_line_ok : (number : ℕ) (r : Result (List ℕ × List ℕ) LineFault) (f : Frame) (after : List ℕ) → of_line number r ≡ Ok (f, after) → (l : List ℕ) × (r ≡ Ok (l, after)) × (frame_at l number ≡ Ok f)
of_line_ok number (Ok p) f after h =
    let (is, rest) = with_rest_ok p.1 (frame_at p.0 number) f after h in
    (p.0, ap (λ q. Ok (p.0, q)) rest, is)
of_line_ok number (Err why) f after h = cc

judged_ok : (t : State) (number : ℕ) (p : Frame × List ℕ) (o : Option FrameFault) (t' : State) (after : List ℕ) → judged t number p o ≡ Ok (t', after) → (o ≡ None) × (moved t p.0 ≡ t') × (p.1 ≡ after)
judged_ok t number p None t' after h =
    let same : ◌≡◌ {A = State × List ℕ} (moved t p.0, p.1) (t', after) = cc in
    (refl, ap (λ q. q.0) same, ap (λ q. q.1) same)
judged_ok t number p (Some why) t' after h = cc

taken_ok : (t : State) (number : ℕ) (r : Result (Frame × List ℕ) Fault) (t' : State) (after : List ℕ) → taken t number r ≡ Ok (t', after) → (f : Frame) × (r ≡ Ok (f, after)) × (frame_fault t f number ≡ None) × (moved t f ≡ t')
taken_ok t number (Ok p) t' after h =
    let (none, then, rest) = judged_ok t number p (frame_fault t p.0 number) t' after h in
    (p.0, ap (λ q. Ok (p.0, q)) rest, none, then)
taken_ok t number (Err why) t' after h = cc

-- a frame with no fault
no_fault : (a b c : Bool) (x y z : FrameFault) → cond a (cond b (cond c (Some x) None) (Some y)) (Some z) ≡ None → (a ≡ true) × (b ≡ true) × (c ≡ false)
no_fault true true true x y z h = cc
no_fault true true false x y z h = (refl, refl, refl)
no_fault true false c x y z h = cc
no_fault false b c x y z h = cc

pub taken_more : (text : List ℕ) (t : State) (number : ℕ) (rest : List ℕ) (t' : State) (after : List ℕ) → Sofar text t number rest → next t rest number ≡ Ok (t', after) → Sofar text t' (number + 1) after
taken_more text t number rest t' after so_far h =
    let fs = so_far.frames in
    let (f, read, none, then) = taken_ok (state_of fs) number (read_frame rest number) t' after (ap (λ s. next s rest number) (sym so_far.now) ∙ h) in
    let (l, found, is) = of_line_ok number (first_line rest number) f after read in
    let begins = line_found rest number l after found in
    let (is_due, few, one) = no_fault (due (stage fs) f) (in_range (stage fs) (said fs) f) (second (said fs) f) (SecondStep number) (OutOfRange number) (NotDue number) none in
    let long : length rest ≡ length l + suc (length after) = ap length begins.1 ∙ length-append l (line_feed ∷ after) in
    record {
      frames = f ∷ fs;
      spelt = (rest, so_far.spelt, (l, begins, frame_any l number f is));
      sound = (so_far.sound, record { due = is_due; in_range = few; first_step = one });
      now = sym then;
      count = omega (arith, so_far.count);
      left = omega (arith, so_far.left);
    }

pub taken_less : (t : State) (number : ℕ) (rest : List ℕ) (t' : State) (after : List ℕ) → next t rest number ≡ Ok (t', after) → length after < length rest
taken_less t number rest t' after h =
    let (f, read, none, then) = taken_ok t number (read_frame rest number) t' after h in
    let (l, found, is) = of_line_ok number (first_line rest number) f after read in
    let begins = line_found rest number l after found in
    omega (arith, ap length begins.1, length-append l (line_feed ∷ after))

-- a frame with a fault: which one it is
with_rest_err : (rest : List ℕ) (r : Result Frame FrameFault) (why : Fault) → with_rest rest r ≡ Err why → (x : FrameFault) × (r ≡ Err x) × (why ≡ fault.Frame x)
with_rest_err rest (Ok g) why h = cc
with_rest_err rest (Err x) why h = (x, refl, cc)

unframed : (P : FrameFault → Type 0) (a b : Bool) (v : Frame) (y z w : FrameFault) → cond a (cond b (Ok v) (Err y)) (Err z) ≡ Err w → (a ≡ true → b ≡ false → P y) → (a ≡ false → P z) → P w
unframed P true true v y z w h short other = cc
unframed P true false v y z w h short other = let same : y ≡ w = cc in subst P same (short refl refl)
unframed P false b v y z w h short other = let same : z ≡ w = cc in subst P same (other refl)

known : (k : ℕ) → (leb 1 k && leb k 6) ≡ true → (1 ≤ k) × (k ≤ 6)
known k h = (grind (arith, nat_tests), grind (arith, nat_tests))

unknown : (k : ℕ) → (leb 1 k && leb k 6) ≡ false → (1 ≤ k) × (k ≤ 6) → ⊥
unknown k h (low, high) = grind (arith, nat_tests)

bad_line : (l : List ℕ) (n : ℕ) (fs : List Frame) (text rest : List ℕ) (x : FrameFault) → n ≡ suc (length fs) → BeginsWith text l rest → frame_at l n ≡ Err x → Faults fs text (fault.Frame x)
bad_line l n fs text rest x count begins h =
    let k = byte_at l 0 in
    unframed (λ w. Faults fs text (fault.Frame w)) (leb 1 k && leb k 6) (eqb (length l) (get_or line_lengths (k - 1) 0)) _ (WrongLength n) (UnknownKind n) x h
    (λ is long. (count, (l, rest, begins, (known k is, eqb-false (length l) (get_or line_lengths (k - 1) 0) long))))
    (λ other. (count, (l, rest, begins, unknown k other)))

named : (P : FrameFault → Type 0) (a b c : Bool) (x y z w : FrameFault) → cond a (cond b (cond c (Some x) None) (Some y)) (Some z) ≡ Some w → (a ≡ true → b ≡ true → c ≡ true → P x) → (a ≡ true → b ≡ false → P y) → (a ≡ false → P z) → P w
named P true true true x y z w h again out early = let same : x ≡ w = cc in subst P same (again refl refl refl)
named P true true false x y z w h again out early = cc
named P true false c x y z w h again out early = let same : y ≡ w = cc in subst P same (out refl refl)
named P false b c x y z w h again out early = let same : z ≡ w = cc in subst P same (early refl)

bad_frame : (fs : List Frame) (text rest l : List ℕ) (f : Frame) (n : ℕ) (x : FrameFault) → n ≡ suc (length fs) → BeginsWith text l rest → IsFrame l f → frame_fault (state_of fs) f n ≡ Some x → Faults fs text (fault.Frame x)
bad_frame fs text rest l f n x count begins is h =
    named (λ w. Faults fs text (fault.Frame w)) (due (stage fs) f) (in_range (stage fs) (said fs) f) (second (said fs) f) (SecondStep n) (OutOfRange n) (NotDue n) x h
    (λ a b c. (count, (l, rest, begins, (f, is, (a, b, c)))))
    (λ a b. (count, (l, rest, begins, (f, is, (a, b)))))
    (λ a. (count, (l, rest, begins, (f, is, a))))

-- a text that is not empty and does not go on with a sound frame has a fault at its first line
of_line_err : (fs : List Frame) (text : List ℕ) (n : ℕ) (r : Result (List ℕ × List ℕ) LineFault) (why : Fault) → first_line text n ≡ r → n ≡ suc (length fs) → 0 < length text → of_line n r ≡ Err why → Faults fs text why
of_line_err fs text n (Ok p) why found count some h =
    let (x, is, same) = with_rest_err p.1 (frame_at p.0 n) why h in
    subst (Faults fs text) (sym same) (bad_line p.0 n fs text p.1 x count (line_found text n p.0 p.1 found) is)
of_line_err fs text n (Err x) why found count some h =
    let (is, none) = line_missing text n x found in
    let same : fault.Line (Malformed n) ≡ why = ap fault.Line (sym is) ∙ cc in
    subst (Faults fs text) same (count, some, none)

judged_err : (fs : List Frame) (text rest l : List ℕ) (f : Frame) (n : ℕ) (o : Option FrameFault) (why : Fault) → frame_fault (state_of fs) f n ≡ o → n ≡ suc (length fs) → BeginsWith text l rest → IsFrame l f → judged (state_of fs) n (f, rest) o ≡ Err why → Faults fs text why
judged_err fs text rest l f n None why told count begins is h = cc
judged_err fs text rest l f n (Some x) why told count begins is h =
    let same : fault.Frame x ≡ why = cc in
    subst (Faults fs text) same (bad_frame fs text rest l f n x count begins is told)

taken_err : (fs : List Frame) (text : List ℕ) (n : ℕ) (r : Result (Frame × List ℕ) Fault) (why : Fault) → read_frame text n ≡ r → n ≡ suc (length fs) → 0 < length text → taken (state_of fs) n r ≡ Err why → Faults fs text why
taken_err fs text n (Ok p) why read count some h =
    let (l, found, is) = of_line_ok n (first_line text n) p.0 p.1 read in
    judged_err fs text p.1 l p.0 n (frame_fault (state_of fs) p.0 n) why refl count (line_found text n l p.1 found) (frame_any l n p.0 is) h
taken_err fs text n (Err x) why read count some h =
    let same : x ≡ why = cc in
    subst (Faults fs text) same (of_line_err fs text n (first_line text n) x refl count some read)

broken_reads : (text : List ℕ) (why : Fault) → Broken text why → Reads text (Err (Faulty why))
broken_reads text (fault.Line (Malformed n)) b = b
broken_reads text (fault.Line TooLong) b = absurd b.first
broken_reads text (fault.Frame x) b = b

refused : (text : List ℕ) (t : State) (number : ℕ) (rest : List ℕ) (why : Fault) → length text ≤ most_bytes → Sofar text t number rest → 0 < length rest → next t rest number ≡ Err why → Reads text (Err (Faulty why))
refused text t number rest why few so_far some h =
    broken_reads text why (record {
      few = few;
      frames = so_far.frames;
      rest = rest;
      spelt = so_far.spelt;
      sound = so_far.sound;
      first = taken_err so_far.frames rest number (read_frame rest number) why refl so_far.count some (ap (λ s. next s rest number) (sym so_far.now) ∙ h);
    })

pub stopped : (text : List ℕ) (t : State) (number : ℕ) (rest : List ℕ) (t' : State) (why : Unread) → length text ≤ most_bytes → Sofar text t number rest → 0 < length rest → Took (next t rest number) t' (Err why) → Reads text (Err why)
stopped text t number rest t' (Faulty why) few so_far some h = refused text t number rest why few so_far some h
stopped text t number rest t' OutOfMemory few so_far some h = few

-- at the end of the text the deck is whole
pub whole : (text : List ℕ) (t : State) (number : ℕ) (rest : List ℕ) (d : Deck) → length text ≤ most_bytes → Sofar text t number rest → length rest ≡ 0 → complete t.stage ≡ true → says d ≡ t.said → Reads text (Ok d)
whole text t number [] d few so_far none done yields =
    let at = so_far.now in
    let end : complete (stage so_far.frames) ≡ true = ap (λ s. complete s.stage) (sym at) ∙ done in
    record {
      few = few;
      frames = so_far.frames;
      spelt = so_far.spelt;
      sound = so_far.sound;
      in_order = sound_order so_far.frames so_far.sound end;
      done = end;
      yields = yields ∙ ap (λ s. s.said) at;
    }
whole text t number (b ∷ rest) d few so_far none done yields = absurd (omega arith)
