-- Each call keeps what every history keeps (`Kept` of Running.antt), so every history does. A ballot changes one record and
-- cannot come on a settled round; a settlement records what fusion makes of the ballots; an accepted event is one that the
-- votes allow, and the votes generate only legal strings; an open that is clear starts from the first pair.
-- Assumes nothing.
use Rattle.std.proofs.Common.{◌≡◌, ℕ, zero, suc, ◌-◌, ◌<◌, ◌≤◌, Bool, true, false, cond, ◌||◌, eqb, leb, ◌⊎◌, List, ◌∷◌, length, Some, None, Ok, Err, Option, Result, sym, refl, ap, ◌∙◌, subst₂, inl, inr, ⊎_elim, arith, length-set, get_or-set_other, get_or-set_same}
use Rattle.std.proofs.lemmas.Bool.{cases_Bool, both_ways, and_from, and_parts, or_cases, ltb-true, leb-true, eqb-true, eq-eqb}
use Rattle.plants.proofs.Ranges.{all_at}
use Rattle.control.specs.Strings.{Possible, Legal, sight}
use Rattle.control.specs.Systems.{System, Keeps, first_pair}
use Rattle.checking.specs.declared.verdict.Verdict.{Verdict}
use Rattle.checking.specs.declared.verdict.Verdict.TheVariants.{Clear, Clash}
use Rattle.checking.specs.declared.verdict.Refusal.{Refusal as Unchecked}
use Rattle.theory.specs.Estimates.{estimate, told}
use Rattle.theory.specs.Rules.Generates.{added}
use Rattle.theory.proofs.Votes.{votes_generate_legal_lem}
use Rattle.sites.specs.Sites.{vote_mask}
use Rattle.sessions.specs.Calls.{site, balloted, settling, happening, leaves, same_counts, has_voted, settled_in, with_ballot, with_round, with_event, next_site, first_site, opened, is_clear, Ran, Does}
use Rattle.sessions.specs.Histories.{Exchange, History, accept, accepted, round_after, settled}
use Rattle.sessions.specs.Status.{Status, no_site}
use Rattle.sessions.specs.Histories.History.{new, next}
use Rattle.sessions.specs.declared.call.Call.{Call}
use Rattle.sessions.specs.declared.call.Call.TheVariants.{Open, Ballot, Settle, Happen}
use Rattle.sessions.specs.declared.call.Refusal.{Refusal}
use Rattle.sessions.specs.declared.call.Reply.{Reply}
use Rattle.sessions.specs.declared.call.Reply.TheVariants.{Checked as CheckedBy, Allowed, Moved}
use Rattle.sessions.proofs.Gates.{ballot_passed, settle_passed, Happens, happen_passed}
use Rattle.sessions.proofs.Running.{Kept, allows}

-- the record of a site after a ballot
pub ballot_same : (s : Status) (i v : ℕ) → i - 1 < length s.sites → site (with_ballot s i v) i ≡ record { estimate = (site s i).estimate; ballot = Some v }
ballot_same s i v within = get_or-set_same s.sites (i - 1) _ no_site within

pub ballot_other : (s : Status) (i j v : ℕ) → 0 < i → 0 < j → (j ≡ i → ⊥) → site (with_ballot s i v) j ≡ site s j
ballot_other s i j v hi hj apart = get_or-set_other s.sites (i - 1) (j - 1) _ no_site (λ e. apart (omega arith))

same_or_apart : (j k : ℕ) → (j ≡ k) ⊎ (j ≡ k → ⊥)
same_or_apart j k = ⊎_elim (λ t. inl (eqb-true j k t)) (λ f. inr (λ e. both_ways (eqb j k) f (eq-eqb j k e))) (cases_Bool (eqb j k))

-- it changes no estimate, and no other ballot
ballot_estimate : (s : Status) (i j v : ℕ) → i - 1 < length s.sites → 0 < i → 0 < j → (site (with_ballot s i v) j).estimate ≡ (site s j).estimate
ballot_estimate s i j v within hi hj =
    ⊎_elim
    (λ same. ap (λ k. (site (with_ballot s i v) k).estimate) same ∙ ap (λ x. x.estimate) (ballot_same s i v within) ∙ sym (ap (λ k. (site s k).estimate) same))
    (λ apart. ap (λ x. x.estimate) (ballot_other s i j v hi hj apart))
    (same_or_apart j i)

ballot_cast : (s : Status) (i j v x : ℕ) → i - 1 < length s.sites → 0 < i → 0 < j → (site (with_ballot s i v) j).ballot ≡ Some x → ((j ≡ i) × (x ≡ v)) ⊎ ((site s j).ballot ≡ Some x)
ballot_cast s i j v x within hi hj at =
    ⊎_elim
    (λ same. let cast = sym (ap (λ y. y.ballot) (ballot_same s i v within)) ∙ sym (ap (λ k. (site (with_ballot s i v) k).ballot) same) ∙ at in inl (same, (cc)))
    (λ apart. inr (sym (ap (λ y. y.ballot) (ballot_other s i j v hi hj apart)) ∙ at))
    (same_or_apart j i)

-- the records after an event and after an opening, by site
next_at : (w : System) (s : Status) (e q i : ℕ) → 0 < i → i ≤ 4 → site (with_event w s e q) i ≡ next_site w s e i
next_at w s e q zero low high = absurd (omega arith)
next_at w s e q (suc zero) low high = refl
next_at w s e q (suc (suc zero)) low high = refl
next_at w s e q (suc (suc (suc zero))) low high = refl
next_at w s e q (suc (suc (suc (suc zero)))) low high = refl
next_at w s e q (suc (suc (suc (suc (suc i))))) low high = absurd (omega arith)

first_at : (w : System) (i : ℕ) → 0 < i → i ≤ 4 → site (opened w) i ≡ first_site w i
first_at w zero low high = absurd (omega arith)
first_at w (suc zero) low high = refl
first_at w (suc (suc zero)) low high = refl
first_at w (suc (suc (suc zero))) low high = refl
first_at w (suc (suc (suc (suc zero)))) low high = refl
first_at w (suc (suc (suc (suc (suc i))))) low high = absurd (omega arith)

-- a site that was told is at its estimate for what it was shown
told_estimate : (w : System) (i e : ℕ) (u : List ℕ) (m : ℕ) (sees : Bool) → w.setup.sees i e ≡ sees → m ≡ estimate w i (sight w.setup i u) → cond sees (told w i m e) m ≡ estimate w i (cond sees (e ∷ sight w.setup i u) (sight w.setup i u))
told_estimate w i e u m true is at = ap (λ k. told w i k e) at
told_estimate w i e u m false is at = at

no_ballot : {v : ℕ} → ◌≡◌ {A = Option ℕ} None (Some v) → ⊥
no_ballot e = let z : ◌≡◌ {A = ℕ} 0 1 = cc in omega arith

counts_opened : (w : System) → same_counts w (opened w) ≡ true
counts_opened w =
    and_from (eqb w.plant.count w.plant.count) _ (eq-eqb w.plant.count w.plant.count refl)
    (and_from (eqb w.spec.count w.spec.count) _ (eq-eqb w.spec.count w.spec.count refl) (eq-eqb w.setup.sites w.setup.sites refl))

module _ (w : System) (keeps : Keeps w) (few : w.setup.sites ≤ 4) {u : List ℕ} {b : Bool} {s : Status} (kept : Kept w u b s) where
  ballot_kept : (i : ℕ) (r : Result ℕ Refusal) → balloted w s i ≡ r → Kept w u b (leaves s r (with_ballot s i))
  ballot_kept i (Err x) is = kept
  ballot_kept i (Ok v) is =
      let told = ballot_passed w s i v is in
      let run = kept.running told.started in
      let (low, high) = and_parts (leb 1 i) (leb i w.setup.sites) told.is_site in
      let some = leb-true 1 i low in
      let small = leb-true i w.setup.sites high in
      let within : i - 1 < length s.sites = omega (arith, run.four) in
      -- a settled round has every ballot
      let unsettled : settled_in s.round ≡ true → ⊥ = λ t. both_ways (has_voted s i) told.first (⊎_elim (λ z. absurd (omega (arith, eqb-true i 0 z))) (λ y. y) (or_cases (eqb i 0) (has_voted s i) (all_at (suc w.setup.sites) (λ j. eqb j 0 || has_voted s j) (run.voted t) i (omega arith)))) in
      record {
        rounds = kept.rounds;
        idle = kept.idle;
        running = λ on. record {
          counts = run.counts;
          clear = run.clear;
          four = length-set s.sites (i - 1) _ ∙ run.four;
          state = run.state;
          legal = run.legal;
          estimates = λ j hj lj. ballot_estimate s i j v within some hj ∙ run.estimates j hj lj;
          ballots = λ j hj lj x at. ⊎_elim (λ (same, is). is ∙ sym told.vote ∙ ap (λ k. vote_mask w k (site s k).estimate) (sym same)) (run.ballots j hj lj x) (ballot_cast s i j v x within some hj at) ∙ ap (vote_mask w j) (sym (ballot_estimate s i j v within some hj));
          voted = λ t. absurd (unsettled t);
          allowed = λ t. absurd (unsettled t);
        };
      }

  pub settle_kept : (r : Result ℕ Refusal) → settling w s ≡ r → Kept w u (round_after (Allowed r) b) (leaves s r (with_round s))
  settle_kept (Err x) is = kept
  settle_kept (Ok m) is =
      let told = settle_passed w s m is in
      let run = kept.running told.started in
      record {
        rounds = refl;
        idle = λ off. absurd (both_ways s.started off told.started);
        running = λ on. record {
          counts = run.counts;
          clear = run.clear;
          four = run.four;
          state = run.state;
          legal = run.legal;
          estimates = run.estimates;
          ballots = run.ballots;
          voted = λ t. told.voted;
          allowed = λ t. sym told.mask;
        };
      }

  -- the votes generate exactly the legal strings, so an event that they allow and the plant can do is legal
  pub happen_legal : (e q : ℕ) → Happens w s e q → Legal w (e ∷ u)
  happen_legal e q told =
      let run = kept.running told.started in
      let below = ltb-true e w.setup.events told.event in
      let (exact, rules) = votes_generate_legal_lem w keeps run.clear in
      let possible : Possible w (e ∷ u) = (q, (s.state, run.state, below, told.steps)) in
      exact.legal (e ∷ u) (added (exact.whole u run.legal) possible (allows w keeps few run told.settled e below told.allowed))

  happen_kept : (e : ℕ) (r : Result ℕ Refusal) → happening w s e ≡ r → Kept w (accept (Moved r) (Happen e) u) (round_after (Moved r) b) (leaves s r (with_event w s e))
  happen_kept e (Err x) is = kept
  happen_kept e (Ok q) is =
      let told = happen_passed w s e q is in
      let run = kept.running told.started in
      record {
        rounds = refl;
        idle = λ off. absurd (both_ways s.started off told.started);
        running = λ on. record {
          counts = run.counts;
          clear = run.clear;
          four = refl;
          state = (s.state, run.state, ltb-true e w.setup.events told.event, told.steps);
          legal = happen_legal e q told;
          estimates = λ i low high. ap (λ x. x.estimate) (next_at w s e q i low high) ∙ told_estimate w i e u (site s i).estimate (w.setup.sees i e) refl (run.estimates i low high);
          ballots = λ i low high v at. absurd (no_ballot (sym (ap (λ x. x.ballot) (next_at w s e q i low high)) ∙ at));
          voted = λ t. absurd (both_ways false refl t);
          allowed = λ t. absurd (both_ways false refl t);
        };
      }

  open_kept : (r : Result Verdict Unchecked) → Ran w r → Kept w (accept (CheckedBy r) Open u) (round_after (CheckedBy r) b) (cond (is_clear r) (opened w) s)
  open_kept (Err x) checked = kept
  open_kept (Ok (Clash e k)) checked = kept
  open_kept (Ok Clear) (cells, cells', trace, trace', checked) =
      record {
        rounds = refl;
        idle = λ off. absurd (both_ways true off refl);
        running = λ on. record {
          counts = counts_opened w;
          clear = checked.none;
          four = refl;
          state = refl;
          legal = (first_pair w, refl);
          estimates = λ i low high. ap (λ x. x.estimate) (first_at w i low high);
          ballots = λ i low high v at. absurd (no_ballot (sym (ap (λ x. x.ballot) (first_at w i low high)) ∙ at));
          voted = λ t. absurd (both_ways false refl t);
          allowed = λ t. absurd (both_ways false refl t);
        };
      }

  -- any call
  pub step_kept : (call : Call) (reply : Reply) (s' : Status) → Does w s call reply s' → Kept w (accept reply call u) (round_after reply b) s'
  step_kept Open reply s' (r, is, (checked, to)) =
      subst₂ (λ x t. Kept w (accept x Open u) (round_after x b) t) (sym is) (sym to) (open_kept r checked)
  step_kept (Ballot i) reply s' (is, to) =
      subst₂ (λ x t. Kept w (accept x (Ballot i) u) (round_after x b) t) (sym is) (sym to) (ballot_kept i (balloted w s i) refl)
  step_kept Settle reply s' (is, to) =
      subst₂ (λ x t. Kept w (accept x Settle u) (round_after x b) t) (sym is) (sym to) (settle_kept (settling w s) refl)
  step_kept (Happen e) reply s' (is, to) =
      subst₂ (λ x t. Kept w (accept x (Happen e) u) (round_after x b) t) (sym is) (sym to) (happen_kept e (happening w s e) refl)

-- every history keeps it
pub history_kept : (w : System) → Keeps w → w.setup.sites ≤ 4 → {h : List Exchange} {s : Status} → History w h s → Kept w (accepted h) (settled h) s
history_kept w keeps few new = record { rounds = refl; idle = λ off. (refl, refl); running = λ on. absurd (both_ways false refl on) }
history_kept w keeps few (next {call = call} {reply = reply} {s' = s'} past does) = step_kept w keeps few (history_kept w keeps few past) call reply s' does
