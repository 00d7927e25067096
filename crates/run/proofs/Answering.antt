-- From what each step of a run says to what the whole comes to: why there are no replies, or which replies they are and that
-- the plays among them stay legal. A text tells one thing only, so what holds of the deck that was read holds of whatever the
-- text tells. Assumes nothing.
use Rattle.std.proofs.Common.{◌≡◌, ℕ, ◌≤◌, cond, List, ◌∷◌, take, Ok, Err, refl, subst, arith}
use Rattle.control.specs.Systems.{System, Keeps}
use Rattle.theory.specs.declared.moves.Move.{Move}
use Rattle.checking.specs.declared.verdict.Refusal.{Refusal as Unchecked}
use Rattle.checking.specs.declared.verdict.Verdict.{Verdict}
use Rattle.checking.specs.declared.verdict.Verdict.TheVariants.{Clear, Clash}
use Rattle.sessions.specs.Calls.{is_clear, opened}
use Rattle.sessions.specs.Status.{Status}
use Rattle.decks.specs.Decks.{Reads, Tells}
use Rattle.decks.specs.Said.{Said}
use Rattle.decks.proofs.Unique.{tells_once}
use Rattle.replies.specs.Decks.{check_replies, makes, most_moves, said_system}
use Rattle.replies.specs.Decks.Gets.{unread, unmade, checked}
use Rattle.replies.specs.Lines.{Begins, clear, text_of}
use Rattle.replies.specs.Plays.{PlaysStayLegal, play_replies}
use Rattle.plays.proofs.Legality.{plays_stay_legal}
use Rattle.control.specs.declared.problem.Unmade.{Unmade}
use Rattle.decks.specs.declared.unread.Unread.{Unread}
use Rattle.decks.specs.declared.unread.Unread.TheVariants as reading
use Rattle.run.specs.Runs.{Answered, Asked, Replied, Shown}
use Rattle.run.specs.Stops.{stop_of}
use Rattle.run.specs.declared.stop.Fault.TheVariants.{Check, Make}
use Rattle.run.specs.declared.stop.Stop.TheVariants.{Faulty}

module _ (text cells : List ℕ) (trace : List Move) (out : List ℕ) where
  pub unread_answered : (u : Unread) → Reads text (Err u) → Answered text cells cells trace trace out out (Err (stop_of u))
  unread_answered (reading.Faulty why) h = (unread why h refl refl, refl)
  unread_answered reading.OutOfMemory h = (h, record { same_cells = refl; same_trace = refl; same_output = refl })

  pub unmade_answered : (x : Said) (why : Unmade) → Tells text x → makes x ≡ Err why → Answered text cells cells trace trace out out (Err (Faulty (Make why)))
  unmade_answered x why tells is = (unmade x why tells is refl refl, refl)

module _ (text cells cells' : List ℕ) (trace trace' : List Move) (out out' : List ℕ) (x : Said) (tells : Tells text x) (is : makes x ≡ Ok tt) (w : System) (means : w ≡ said_system x) where
  pub unchecked_answered : (why : Unchecked) → Asked w cells cells' trace trace' (Err why) → out' ≡ out → Answered text cells cells' trace trace' out out' (Err (Faulty (Check why)))
  unchecked_answered why asked same =
      let told = subst (λ v. Asked v cells cells' trace trace' (Err why)) means asked in
      (checked x (Err why) tells is told.checked told.past, same)

  pub shown_answered : (plays : List ℕ) → plays ≡ x.plays → (n : ℕ) → Shown w cells cells' trace trace' plays out out' n → Replied text cells cells' trace trace' out out' n
  shown_answered plays listed n shown =
      let told = subst (λ es. Shown (said_system x) cells cells' trace trace' es out out' n) listed (subst (λ v. Shown v cells cells' trace trace' plays out out' n) means shown) in
      record {
        replies = check_replies (said_system x) trace' x.plays (Ok told.verdict);
        gets = checked x (Ok told.verdict) tells is told.asked.checked told.asked.past;
        stays_legal = λ y others rest begins. subst (λ z. PlaysStayLegal (said_system z) rest) (tells_once text x y tells others) (told.stays_legal rest begins);
        written = told.written;
      }

module _ (w : System) (keeps : Keeps w) (few : w.setup.sites ≤ 4) (cells cells' : List ℕ) (trace trace' : List Move) (plays out out' : List ℕ) (n : ℕ) where
  -- a clear verdict, shown by the answers to the plays
  pub clear_shown : (v : Verdict) (s found : Status) → v ≡ Clear → Asked w cells cells' trace trace' (Ok v) → s ≡ cond (is_clear (Ok v)) (opened w) found → Begins out out' n (text_of (clear ∷ play_replies w s plays)) → Shown w cells cells' trace trace' plays out out' n
  clear_shown Clear s found is asked at written =
      record {
        verdict = Clear;
        asked = asked;
        written = subst (λ t. Begins out out' n (text_of (clear ∷ play_replies w t plays))) at written;
        stays_legal = λ rest begins. let same : play_replies w (opened w) plays ≡ rest = cc in subst (PlaysStayLegal w) same (plays_stay_legal w keeps few (cells, cells', take most_moves trace, take most_moves trace', asked.checked) plays);
      }
  clear_shown (Clash e k) s found is asked at written = let z : ◌≡◌ {A = ℕ} 0 1 = cc in absurd (omega arith)
