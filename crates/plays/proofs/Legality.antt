-- Plays stay legal. Each play is a list of calls of the session, which keep what every history keeps; its round is settled
-- when its event is asked for, so the event happens exactly when the accepted events stay legal with it. By induction over
-- the plays this holds of each of them. Assumes nothing.
use Rattle.std.proofs.Common.{◌≡◌, ℕ, zero, suc, ◌≤◌, Bool, true, false, ◌↔◌, List, [], ◌∷◌, ◌++◌, is_ok, Ok, Err, Result, sym, refl, ap, ◌∙◌, subst, arith}
use Rattle.std.proofs.lemmas.Bool.{both_ways}
use Rattle.control.specs.Strings.{Legal}
use Rattle.control.specs.Systems.{System, Keeps}
use Rattle.checking.specs.declared.verdict.Verdict.TheVariants.{Clear}
use Rattle.sessions.specs.Calls.{Ran, allowed_in, happening, leaves, opened, refusal_number, with_event}
use Rattle.sessions.specs.Histories.{accept, round_after}
use Rattle.sessions.specs.Histories.History.{new}
use Rattle.sessions.specs.Status.{Status}
use Rattle.sessions.specs.declared.call.Call.TheVariants.{Open as OpenCall, Happen}
use Rattle.sessions.specs.declared.call.Refusal.{Refusal}
use Rattle.sessions.specs.declared.call.Refusal.TheVariants.{CountDiffers, Closed, NoSite, HasVoted, BallotMissing, IsSettled, NotSettled, NoEvent, NotAllowed, NoStep}
use Rattle.sessions.specs.declared.call.Reply.TheVariants.{Checked, Moved}
use Rattle.sessions.proofs.Keeping.{history_kept, step_kept}
use Rattle.sessions.proofs.Promised.{accepts_exactly, legal_kept}
use Rattle.replies.specs.Lines.{Reply, played}
use Rattle.replies.specs.Plays.{PlaysStayLegal, after_play, granted_after, outcome_number, play_replies, play_reply, ready}
use Rattle.plays.proofs.Ready.{Open, ready_open}

-- no refusal has the number 0
refused_number : (x : Refusal) → refusal_number x ≡ 0 → ⊥
refused_number CountDiffers e = omega arith
refused_number Closed e = omega arith
refused_number NoSite e = omega arith
refused_number HasVoted e = omega arith
refused_number BallotMissing e = omega arith
refused_number IsSettled e = omega arith
refused_number NotSettled e = omega arith
refused_number NoEvent e = omega arith
refused_number NotAllowed e = omega arith
refused_number NoStep e = omega arith

happened : (r : Result ℕ Refusal) → (outcome_number r ≡ 0) ↔ (is_ok r ≡ true)
happened (Ok q) = (λ e. refl, λ e. refl)
happened (Err x) = (λ e. absurd (refused_number x e), λ e. absurd (both_ways false refl e))

not_granted : (u : List ℕ) (e m n : ℕ) (rs : List Reply) → (n ≡ 0 → ⊥) → granted_after u (played e m n ∷ rs) ≡ granted_after u rs
not_granted u e m zero rs some = absurd (some refl)
not_granted u e m (suc n) rs some = refl

-- the events granted after one more play
granted_more : (u : List ℕ) (e m : ℕ) (r : Result ℕ Refusal) (rs : List Reply) → granted_after u (played e m (outcome_number r) ∷ rs) ≡ granted_after (accept (Moved r) (Happen e) u) rs
granted_more u e m (Ok q) rs = refl
granted_more u e m (Err x) rs = not_granted u e m (refusal_number x) rs (refused_number x)

module _ (w : System) (keeps : Keeps w) (few : w.setup.sites ≤ 4) where
  event_started : (s : Status) (e : ℕ) (r : Result ℕ Refusal) → (leaves s r (with_event w s e)).started ≡ s.started
  event_started s e (Ok q) = refl
  event_started s e (Err x) = refl

  -- a play is granted exactly when it keeps the accepted events legal
  exact : {u : List ℕ} {b : Bool} {s : Status} → Open w keeps few u b s → (e : ℕ) → (outcome_number (happening w (ready w s) e) ≡ 0) ↔ Legal w (e ∷ u)
  exact {u} {b} {s} on e =
      let r = happening w (ready w s) e in
      let accepted = accepts_exactly w keeps few (ready_open w keeps few on).kept refl e r refl in
      (λ zeroth. accepted.0 ((happened r).0 zeroth), λ legal. (happened r).1 (accepted.1 legal))

  -- and leaves an open session
  played_open : {u : List ℕ} {b : Bool} {s : Status} → Open w keeps few u b s → (e : ℕ) → Open w keeps few (accept (Moved (happening w (ready w s) e)) (Happen e) u) (round_after (Moved (happening w (ready w s) e)) true) (after_play w s e)
  unfolding after_play
  played_open {s = s} on e =
      let prepared = ready_open w keeps few on in
      let r = happening w (ready w s) e in
      record {
        kept = step_kept w keeps few prepared.kept (Happen e) (Moved r) (leaves (ready w s) r (with_event w (ready w s) e)) (refl, refl);
        started = event_started (ready w s) e r ∙ prepared.started;
      }

  all_legal : (es : List ℕ) {u : List ℕ} {b : Bool} {s : Status} → Open w keeps few u b s → Legal w (granted_after u (play_replies w s es))
  all_legal [] on = legal_kept w keeps few on.kept
  all_legal (e ∷ es) {u} {b} {s} on =
      subst (Legal w) (sym (granted_more u e (allowed_in (ready w s).round) (happening w (ready w s) e) (play_replies w (after_play w s e) es))) (all_legal es (played_open on e))

  each_exact : (es : List ℕ) {u : List ℕ} {b : Bool} {s : Status} → Open w keeps few u b s → (before later : List Reply) (e m n : ℕ) → play_replies w s es ≡ before ++ played e m n ∷ later → Legal w (granted_after u before) × ((n ≡ 0) ↔ Legal w (e ∷ granted_after u before))
  each_exact [] on [] later e m n is = let z : ◌≡◌ {A = ℕ} 0 1 = cc in absurd (omega arith)
  each_exact [] on (x ∷ before) later e m n is = let z : ◌≡◌ {A = ℕ} 0 1 = cc in absurd (omega arith)
  each_exact (d ∷ es) {u} {b} {s} on [] later e m n is =
      let event : d ≡ e = cc in
      let number : outcome_number (happening w (ready w s) d) ≡ n = cc in
      (legal_kept w keeps few on.kept, subst (λ x. (x ≡ 0) ↔ Legal w (e ∷ u)) number (subst (λ x. (outcome_number (happening w (ready w s) d) ≡ 0) ↔ Legal w (x ∷ u)) event (exact on d)))
  each_exact (d ∷ es) {u} {b} {s} on (x ∷ before) later e m n is =
      let head : x ≡ play_reply w s d = cc in
      let tail : play_replies w (after_play w s d) es ≡ before ++ played e m n ∷ later = cc in
      let same = ap (λ y. granted_after u (y ∷ before)) head ∙ granted_more u d (allowed_in (ready w s).round) (happening w (ready w s) d) before in
      subst (λ v. Legal w v × ((n ≡ 0) ↔ Legal w (e ∷ v))) (sym same) (each_exact es (played_open on d) before later e m n tail)

  opened_open : Ran w (Ok Clear) → Open w keeps few [] false (opened w)
  opened_open ran =
      record {
        kept = step_kept w keeps few (history_kept w keeps few new) OpenCall (Checked (Ok Clear)) (opened w) (Ok Clear, refl, (ran, refl));
        started = refl;
      }

  pub plays_stay_legal : Ran w (Ok Clear) → (es : List ℕ) → PlaysStayLegal w (play_replies w (opened w) es)
  plays_stay_legal ran es =
      record { legal = all_legal es (opened_open ran); exactly = each_exact es (opened_open ran) }
