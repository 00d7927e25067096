-- Before an event is played the round is settled, and nothing else has changed. In an open session every site of the problem
-- may cast its ballot, so after all of them were asked each has voted, and then a round that is not settled can be.
-- Assumes nothing.
use Rattle.std.proofs.Common.{◌≡◌, ℕ, zero, suc, ◌-◌, ◌<◌, ◌≤◌, Bool, true, not, ◌||◌, eqb, leb, List, length, is_some, Ok, Err, Result, sym, refl, ap, ◌∙◌, subst, ⊎_elim, arith}
use Rattle.std.proofs.lemmas.Bool.{and_from, cases_Bool, cases_eq, eq-eqb, le-leb, or_left, or_right}
use Rattle.plants.proofs.Ranges.{all_from}
use Rattle.control.specs.Systems.{System, Keeps}
use Rattle.sites.specs.Sites.{vote_mask}
use Rattle.sessions.specs.Calls.{all_voted, ballot_gates, balloted, fused, has_voted, is_site, leaves, settle_gates, settled_in, settling, site, with_ballot, with_round}
use Rattle.sessions.specs.Status.{Status}
use Rattle.sessions.specs.declared.call.Call.TheVariants.{Ballot, Settle}
use Rattle.sessions.specs.declared.call.Refusal.{Refusal}
use Rattle.sessions.specs.declared.call.Reply.TheVariants.{Allowed, Voted}
use Rattle.sessions.proofs.Gates.{grants}
use Rattle.sessions.proofs.Keeping.{ballot_other, ballot_same, step_kept}
use Rattle.sessions.proofs.Running.{Kept}
use Rattle.replies.specs.Plays.{cast, cast_to, ready, settle}

no_ok : {A : Type 0} {x : Refusal} {v : A} → ◌≡◌ {A = Result A Refusal} (Err x) (Ok v) → ⊥
no_ok e = let z : ◌≡◌ {A = ℕ} 0 1 = cc in omega arith

module _ (w : System) (keeps : Keeps w) (few : w.setup.sites ≤ 4) where
  -- an open session, where u are the accepted events
  pub record Open (u : List ℕ) (b : Bool) (s : Status) : Type 0 where
    pub kept : Kept w u b s
    pub started : s.started ≡ true

  ballot_started : (s : Status) (i : ℕ) (r : Result ℕ Refusal) → (leaves s r (with_ballot s i)).started ≡ s.started
  ballot_started s i (Ok v) = refl
  ballot_started s i (Err x) = refl

  cast_open : {u : List ℕ} {b : Bool} {s : Status} (i : ℕ) → Open u b s → Open u b (cast w s i)
  cast_open {u} {b} {s} i on =
      record {
        kept = step_kept w keeps few on.kept (Ballot i) (Voted (balloted w s i)) (cast w s i) (refl, refl);
        started = ballot_started s i (balloted w s i) ∙ on.started;
      }

  pub cast_to_open : {u : List ℕ} {b : Bool} {s : Status} (k : ℕ) → Open u b s → Open u b (cast_to w s k)
  unfolding cast_to
  cast_to_open zero on = on
  cast_to_open {s = s} (suc k) on = cast_open (suc k) (cast_to_open k on)

  -- a site that was asked for its ballot has voted
  module _ {u : List ℕ} {b : Bool} {s : Status} (on : Open u b s) (i : ℕ) (some : 0 < i) (known : i ≤ w.setup.sites) where
    within : i - 1 < length s.sites
    within = omega (arith, (on.kept.running on.started).four)

    asked : (r : Result ℕ Refusal) → balloted w s i ≡ r → has_voted (leaves s r (with_ballot s i)) i ≡ true
    asked (Ok v) is = ap (λ x. is_some x.ballot) (ballot_same s i v within)
    asked (Err x) is =
        let run = on.kept.running on.started in
        let one : is_site w i ≡ true = and_from (leb 1 i) _ (le-leb 1 i some) (le-leb i w.setup.sites known) in
        ⊎_elim (λ has. has)
        (λ not_yet. absurd (no_ok (sym is ∙ grants (ballot_gates w s i) (vote_mask w i (site s i).estimate) (on.started, (run.counts, (one, (ap not not_yet, tt)))))))
        (cases_Bool (has_voted s i))

    -- and one that had voted still has
    still : (j : ℕ) → 0 < j → has_voted s j ≡ true → (r : Result ℕ Refusal) → balloted w s i ≡ r → has_voted (leaves s r (with_ballot s i)) j ≡ true
    still j low has (Err x) is = has
    still j low has (Ok v) is =
        ⊎_elim (λ same. ap (has_voted (with_ballot s i v)) same ∙ asked (Ok v) is) (λ apart. ap (λ x. is_some x.ballot) (ballot_other s i j v some low apart) ∙ has) (cases_eq j i)

  voted_to : {u : List ℕ} {b : Bool} {s : Status} (k : ℕ) → Open u b s → k ≤ w.setup.sites → (j : ℕ) → 0 < j → j ≤ k → has_voted (cast_to w s k) j ≡ true
  unfolding cast_to
  voted_to zero on known j low high = absurd (omega arith)
  voted_to {s = s} (suc k) on known j low high =
      let before = cast_to_open k on in
      ⊎_elim
      (λ last. ap (has_voted (cast w (cast_to w s k) (suc k))) last ∙ asked before (suc k) (omega arith) known (balloted w (cast_to w s k) (suc k)) refl)
      (λ earlier. still before (suc k) (omega arith) known j low (voted_to k on (omega arith) j low (omega (arith, earlier))) (balloted w (cast_to w s k) (suc k)) refl)
      (cases_eq j (suc k))

  -- when all were asked, all have voted
  all_asked : {u : List ℕ} {b : Bool} {s : Status} → Open u b s → all_voted w (cast_to w s w.setup.sites) ≡ true
  all_asked {s = s} on =
      all_from (suc w.setup.sites) (λ i. eqb i 0 || has_voted (cast_to w s w.setup.sites) i)
      (λ i below.
      ⊎_elim (λ none. or_left (eqb i 0) _ (eq-eqb i 0 none)) (λ some. or_right (eqb i 0) _ (voted_to w.setup.sites on (omega arith) i (omega (arith, some)) (omega arith))) (cases_eq i 0))

  -- so the round can be settled, if it is not
  settle_started : (s : Status) (r : Result ℕ Refusal) → (leaves s r (with_round s)).started ≡ s.started
  settle_started s (Ok m) = refl
  settle_started s (Err x) = refl

  settles : {u : List ℕ} {b : Bool} {s : Status} → Open u b s → all_voted w s ≡ true → (r : Result ℕ Refusal) → settling w s ≡ r → settled_in (leaves s r (with_round s)).round ≡ true
  settles on voted (Ok m) is = refl
  settles {s = s} on voted (Err x) is =
      let run = on.kept.running on.started in
      ⊎_elim (λ done. done)
      (λ open_yet. absurd (no_ok (sym is ∙ grants (settle_gates w s) (fused w s) (on.started, (run.counts, (ap not open_yet, (voted, tt)))))))
      (cases_Bool (settled_in s.round))

  pub ready_open : {u : List ℕ} {b : Bool} {s : Status} → Open u b s → Open u true (ready w s)
  unfolding ready
  ready_open {u} {b} {s} on =
      let t = cast_to w s w.setup.sites in
      let asked_all = cast_to_open w.setup.sites on in
      let after = step_kept w keeps few asked_all.kept Settle (Allowed (settling w t)) (settle w t) (refl, refl) in
      let round = after.rounds ∙ settles asked_all (all_asked on) (settling w t) refl in
      record {
        kept = subst (λ x. Kept w u x (settle w t)) round after;
        started = settle_started t (settling w t) ∙ asked_all.started;
      }
