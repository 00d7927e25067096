-- The replies that the decks of the examples get. Their texts tell what is known, so they have no fault, a problem is made
-- of them, and the check is that of the example. A clear check goes on with the plays, which compute; the strings of a
-- clash are the forced ones, whatever run the trace holds. Assumes nothing.
use Rattle.std.proofs.Common.{◌≡◌, ℕ, ◌≤◌, Bool, true, false, List, [], ◌∷◌, reverse, length, take, Ok, codes, Result, sym, refl, ap, ◌∙◌, subst, arith}
use Rattle.std.proofs.lemmas.List.{length-take-le, take-take}
use Rattle.plants.specs.Machine.{Machine}
use Rattle.plants.specs.Masks.{bit, mask_of}
use Rattle.plants.specs.Ranges.{any, all}
use Rattle.control.specs.Systems.{System, system, pair_step}
use Rattle.theory.specs.Estimates.{columns, pairs, number, pair_of, after, grown, again, hidden, first_estimate, told, vote}
use Rattle.theory.specs.Example.{four_states, two_sites, worked}
use Rattle.theory.specs.Rules.{fusion}
use Rattle.theory.specs.declared.moves.Move.{Move}
use Rattle.checking.specs.Answers.{Checked, Clashes}
use Rattle.checking.specs.declared.verdict.Refusal.{Refusal as Unchecked}
use Rattle.checking.specs.declared.verdict.Verdict.{Verdict}
use Rattle.checking.specs.declared.verdict.Verdict.TheVariants.{Clear, Clash}
use Rattle.sessions.specs.Calls.{opened}
use Rattle.frames.specs.Replies.{hex}
use Rattle.decks.specs.Decks.{Tells}
use Rattle.decks.specs.Said.{Said}
use Rattle.decks.proofs.Unique.{tells_once, tells_or_faulty}
use Rattle.replies.specs.Decks.{Gets, Gets.unread, Gets.unmade, Gets.checked, check_replies, makes, said_system}
use Rattle.replies.specs.Lines.{Reply, clear, clash, string, clash_replies, text_of}
use Rattle.replies.specs.Plays.{after_play, cast_to, play_replies, ready}
use Rattle.worked.specs.Cases.{Answers, Replies, RunsReply, early, early_deck, lines, plays, uncontrolled, uncontrolled_deck, worked_deck}
use Rattle.worked.proofs.Checks.{checks}
use Rattle.worked.proofs.Forced.{Forced, early_forced, worked_forced}
use Rattle.worked.proofs.Same.{early_same, uncontrolled_same, worked_same}
use Rattle.worked.proofs.Told.{early_said, early_tells, modes, played_said, played_tells, uncontrolled_tells, worked_said, worked_tells}

-- the check of w, with enough cells and the first 256 records of a trace, makes these replies to those plays
abbrev Answered : System → List ℕ → List (List ℕ) → Type 0
Answered w plays answer =
    (cells cells' : List ℕ) (trace trace' : List Move) (r : Result Verdict Unchecked) → length cells ≡ 8192 → length trace ≡ 256 → Checked w cells cells' (take 256 trace) (take 256 trace') r → text_of (check_replies w trace' plays r) ≡ lines answer

-- the text gets replies of these lines
abbrev GetsLines : List ℕ → List (List ℕ) → Type 0
GetsLines text answer =
    (cells cells' : List ℕ) (trace trace' : List Move) (replies : List Reply) → length cells ≡ 8192 → length trace ≡ 256 → Gets text cells cells' trace trace' replies → text_of replies ≡ lines answer

-- the replies to a text that tells x, of which a problem can be made and which means w
gets : (text : List ℕ) (x : Said) (w : System) (answer : List (List ℕ)) → Tells text x → makes x ≡ Ok tt → said_system x ≡ w → Answered w x.plays answer → GetsLines text answer
gets text x w answer tells made same answered cells cells' trace trace' replies many long (unread why h still kept) = absurd (tells_or_faulty text x why tells h)
gets text x w answer tells made same answered cells cells' trace trace' replies many long (unmade y why also h still kept) =
    let other = ap makes (tells_once text x y tells also) in
    let z : ◌≡◌ {A = ℕ} 0 1 = cc in
    absurd (omega arith)
gets text x w answer tells made same answered cells cells' trace trace' replies many long (checked y r also makes_it h past) =
    let is = tells_once text y x also tells in
    let here = subst (λ v. Checked v cells cells' (take 256 trace) (take 256 trace') r) (ap said_system is ∙ same) h in
    ap (λ z. text_of (check_replies (said_system z) trace' z.plays r)) is
    ∙ ap (λ v. text_of (check_replies v trace' x.plays r)) same
    ∙ answered cells cells' trace trace' r many long here

-- and running it writes them
replied : (text : List ℕ) (x : Said) (w : System) (answer : List (List ℕ)) → Tells text x → makes x ≡ Ok tt → said_system x ≡ w → Answered w x.plays answer → Replies text answer
replied text x w answer tells made same answered cells cells' trace trace' out out' n many long (enough, told) =
    told.written.front ∙ gets text x w answer tells made same answered cells cells' trace trace' told.replies many long told.gets

-- the check answers v, so that is what is replied to
answered_by : (w : System) (plays : List ℕ) (answer : List (List ℕ)) (n k : ℕ) (v : Result Verdict Unchecked) → Answers w n k v → n ≤ 8192 → k ≤ 256
    → ((cells cells' : List ℕ) (trace trace' : List Move) → Checked w cells cells' (take 256 trace) (take 256 trace') v → text_of (check_replies w trace' plays v) ≡ lines answer)
    → Answered w plays answer
answered_by w plays answer n k v answers enough room text cells cells' trace trace' r many long h =
    let is = answers cells cells' (take 256 trace) (take 256 trace') r (omega arith) (omega (arith, length-take-le 256 trace (omega arith))) h in
    ap (λ a. text_of (check_replies w trace' plays a)) is ∙ text cells cells' trace trace' (subst (λ a. Checked w cells cells' (take 256 trace) (take 256 trace') a) is h)

-- a run of a clash spells the forced strings
shown : (b : Bool) (spec : Machine) → Forced (system (two_sites b) four_states spec) → (cells : List ℕ) (trace trace' : List Move) → Clashes (system (two_sites b) four_states spec) cells (take 256 trace) (take 256 trace') 2 2
    → clash_replies (two_sites b) 2 (take 2 trace') ≡ clash 2 2 ∷ string 0 [] ∷ string 1 (1 ∷ []) ∷ string 2 (0 ∷ []) ∷ []
shown b spec forced cells trace trace' h =
    let front = take-take 2 256 trace' (omega arith) in
    let (none, one, two) = forced _ _ h.refutes in
    let count : length (take 2 (take 256 trace')) ≡ 2 = length-take-le 2 (take 256 trace') (omega (arith, h.room, h.same_length)) in
    ap (clash_replies (two_sites b) 2) (sym front)
    ∙ (λ i. clash 2 (count i) ∷ string 0 (reverse (none i)) ∷ string 1 (reverse (one i)) ∷ string 2 (reverse (two i)) ∷ [])

-- the replies' lines: a clash by those strings, plays after a clear check, a clear check alone, and a clash of no moves
abbrev clash_answer : List (List ℕ)
clash_answer = codes "81020002" ∷ codes "8200" ∷ codes "820101" ∷ codes "820200" ∷ []

abbrev plays_answer : List (List ℕ)
plays_answer = codes "80" ∷ codes "9002000000031C" ∷ codes "90000000000300" ∷ codes "90020000000700" ∷ []

abbrev clear_answer : List (List ℕ)
clear_answer = codes "80" ∷ []

abbrev no_moves_answer : List (List ℕ)
no_moves_answer = codes "81020000" ∷ codes "8200" ∷ []

-- the text of a clash of two moves, and of a clear check
clash_text : (b : Bool) (spec : Machine) → Forced (system (two_sites b) four_states spec) → Answers (system (two_sites b) four_states spec) 512 2 (Ok (Clash 2 2)) → Answered (system (two_sites b) four_states spec) [] clash_answer
unfolding hex
clash_text b spec forced answers =
    answered_by (system (two_sites b) four_states spec) [] clash_answer 512 2 (Ok (Clash 2 2)) answers (omega arith) (omega arith)
    (λ cells cells' trace trace' h. ap text_of (shown b spec forced cells trace trace' h))

clear_text : (w : System) (plays : List ℕ) (answer : List (List ℕ)) → Answers w 512 0 (Ok Clear) → text_of (clear ∷ play_replies w (opened w) plays) ≡ lines answer → Answered w plays answer
clear_text w plays answer answers text =
    answered_by w plays answer 512 0 (Ok Clear) answers (omega arith) (omega arith) (λ cells cells' trace trace' h. text)

-- at first event 2 is not allowed, and after event 0 it is
plays_text : text_of (clear ∷ play_replies (worked true) (opened (worked true)) (2 ∷ 0 ∷ 2 ∷ [])) ≡ lines plays_answer
unfolding hex cast_to ready after_play fusion vote hidden grown again after told first_estimate pairs columns number pair_of pair_step any all mask_of bit
plays_text = refl

pub runs : RunsReply
unfolding hex
runs = record {
  worked_means = λ b. (worked_said (modes b) 4, worked_tells b, worked_same b);
  played_means = (played_said, played_tells, worked_same true);
  early_means = λ b. (early_said (modes b) 4, early_tells b, early_same b);
  uncontrolled_means = (worked_said 0 0, uncontrolled_tells, uncontrolled_same);
  conjunctive = replied (worked_deck false []) (worked_said 0 4) (worked false) clash_answer (worked_tells false) refl (worked_same false) (clash_text false (worked false).spec worked_forced checks.conjunctive);
  disjunctive = replied (worked_deck true plays) played_said (worked true) plays_answer played_tells refl (worked_same true) (clear_text (worked true) (2 ∷ 0 ∷ 2 ∷ []) plays_answer checks.disjunctive plays_text);
  early_conjunctive = replied (early_deck false) (early_said 0 4) (early false) clear_answer (early_tells false) refl (early_same false) (clear_text (early false) [] clear_answer checks.early_conjunctive refl);
  early_disjunctive = replied (early_deck true) (early_said 4 4) (early true) clash_answer (early_tells true) refl (early_same true) (clash_text true (early true).spec early_forced checks.early_disjunctive);
  uncontrolled = replied uncontrolled_deck (worked_said 0 0) uncontrolled no_moves_answer uncontrolled_tells refl uncontrolled_same
      (answered_by uncontrolled [] no_moves_answer 8 0 (Ok (Clash 2 0)) checks.uncontrolled (omega arith) (omega arith) (λ cells cells' trace trace' h. refl));
}
