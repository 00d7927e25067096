-- The three promises, from what every history keeps (Keeping.antt) and the theorems of crate theory: a check that is clear
-- leaves local rules and any other sized answer none; the votes generate exactly the legal strings, so a settled round lets
-- exactly those happen; and a vote is taken at the estimate for what the site was shown, and at nothing else.
-- Assumes nothing.
use Rattle.std.proofs.Common.{◌≡◌, ℕ, ◌≤◌, Bool, true, false, leb, ◌↔◌, List, ◌∷◌, is_some, is_ok, Ok, Err, Result, unwrap_or, sym, refl, ap, ◌∙◌, subst, ⊎_elim, arith}
use Rattle.std.proofs.lemmas.Bool.{cases_Bool, both_ways, and_parts, leb-true, lt-ltb}
use Rattle.control.specs.Strings.{Possible, Legal, sight}
use Rattle.control.specs.Systems.{System, Keeps, first_pair}
use Rattle.control.proofs.Strings.{follows_once}
use Rattle.theory.specs.Estimates.{estimate}
use Rattle.theory.specs.Rules.{Rules, Generates, Kept as HasRules, fusion}
use Rattle.theory.specs.Rules.Generates.{added}
use Rattle.theory.proofs.Votes.{votes_generate_legal_lem}
use Rattle.checking.specs.declared.verdict.Verdict.{Verdict}
use Rattle.checking.specs.declared.verdict.Verdict.TheVariants.{Clear, Clash}
use Rattle.checking.specs.declared.verdict.Refusal.{Refusal as Unchecked}
use Rattle.checking.specs.declared.verdict.Refusal.TheVariants.{VoidPlant, VoidSpec, TooManyPairs, TooFewCells, ShortTrace}
use Rattle.sites.specs.Sites.{vote_mask}
use Rattle.sessions.specs.Calls.{balloted, settling, happening, happen_gates, settled_in, Ran, Does}
use Rattle.sessions.specs.Histories.{Exchange, History, accepted, shown, Sized, ClearExactly, AcceptsExactly, AllowsExactly, EqualVotes, Promises}
use Rattle.sessions.specs.Status.{Status}
use Rattle.sessions.specs.declared.call.Call.TheVariants.{Ballot, Settle, Happen}
use Rattle.sessions.specs.declared.call.Refusal.{Refusal}
use Rattle.sessions.specs.declared.call.Reply.TheVariants.{Voted, Allowed, Moved}
use Rattle.sessions.proofs.Gates.{grants, ballot_passed, settle_passed, happen_passed}
use Rattle.sessions.proofs.Running.{Running, Kept, allowed_from}
use Rattle.sessions.proofs.Keeping.{happen_legal, settle_kept, step_kept, history_kept}

no_ok : {A : Type 0} {r : Refusal} {v : A} → ◌≡◌ {A = Result A Refusal} (Err r) (Ok v) → ⊥
no_ok e = let z : ◌≡◌ {A = ℕ} 0 1 = cc in omega arith

-- CLEAR EXACTLY WHEN LOCAL RULES EXIST
cleared : (w : System) (r : Result Verdict Unchecked) → Ran w r → Sized r → (r ≡ Ok Clear) ↔ HasRules w
cleared w (Ok Clear) (cells, cells', trace, trace', checked) sized = (λ is. checked.kept, λ rules. refl)
cleared w (Ok (Clash e k)) (cells, cells', trace, trace', checked) sized =
    (λ is. absurd (let z : ◌≡◌ {A = ℕ} 0 1 = cc in omega arith), λ rules. absurd (checked.not_kept rules))
cleared w (Err ShortTrace) (cells, cells', trace, trace', checked) sized =
    (λ is. absurd (let z : ◌≡◌ {A = ℕ} 0 1 = cc in omega arith), λ rules. absurd (checked.not_kept rules))
cleared w (Err VoidPlant) ran sized = absurd sized
cleared w (Err VoidSpec) ran sized = absurd sized
cleared w (Err TooManyPairs) ran sized = absurd sized
cleared w (Err TooFewCells) ran sized = absurd sized

pub clear_exactly : (w : System) (r : Result Verdict Unchecked) → Ran w r → ClearExactly w r
clear_exactly w r ran sized = cleared w r ran sized

-- the last event of a generated string was possible, and fusion allowed it
last_event : {w : System} {r : Rules} {e : ℕ} {u : List ℕ} → Generates w r (e ∷ u) → Possible w (e ∷ u) × (fusion w.setup e (λ i. r i (sight w.setup i u) e) ≡ true)
last_event (added before possible allowed) = (possible, allowed)

module _ (w : System) (keeps : Keeps w) (few : w.setup.sites ≤ 4) where
  -- ACCEPTED EVENTS STAY LEGAL
  -- a closed session has accepted nothing, and the empty string is legal
  pub legal_kept : {u : List ℕ} {b : Bool} {s : Status} → Kept w u b s → Legal w u
  legal_kept {u} {b} {s} kept =
      ⊎_elim (λ on. (kept.running on).legal) (λ off. subst (Legal w) (sym (kept.idle off).0) (first_pair w, refl)) (cases_Bool s.started)

  -- on a settled round every gate is open to a legal event
  legal_happens : {u : List ℕ} {s : Status} (run : Running w u s) → s.started ≡ true → settled_in s.round ≡ true → (e : ℕ) → Legal w (e ∷ u) → happening w s e ≡ Ok (unwrap_or (w.plant.step s.state e) 0)
  legal_happens {u} {s} run on round e legal =
      let (exact, rules) = votes_generate_legal_lem w keeps run.clear in
      let ((q, (p, follows, below, steps)), allowed) = last_event (exact.whole (e ∷ u) legal) in
      let here = follows_once w u p s.state follows run.state in
      let moves : is_some (w.plant.step s.state e) ≡ true = ap is_some (ap (λ x. w.plant.step x e) (sym here) ∙ steps) in
      grants (happen_gates w s e) (unwrap_or (w.plant.step s.state e) 0) (on, (run.counts, (lt-ltb e w.setup.events below, (round, (allowed_from w keeps few run round e below allowed, (moves, tt))))))

  -- a session on a settled round is open
  started_kept : {u : List ℕ} {b : Bool} {s : Status} → Kept w u b s → b ≡ true → s.started ≡ true
  started_kept {u} {b} {s} kept round = ⊎_elim (λ on. on) (λ off. absurd (both_ways b (kept.idle off).1 round)) (cases_Bool s.started)

  pub accepts_exactly : {u : List ℕ} {b : Bool} {s : Status} → Kept w u b s → b ≡ true → (e : ℕ) (r : Result ℕ Refusal) → happening w s e ≡ r → (is_ok r ≡ true) ↔ Legal w (e ∷ u)
  accepts_exactly kept round e (Ok q) is = (λ t. happen_legal w keeps few kept e q (happen_passed w _ e q is), λ legal. refl)
  accepts_exactly {s = s} kept round e (Err x) is = (
    λ t. absurd (both_ways false refl t),
    λ legal. let on = started_kept kept round in absurd (no_ok (sym is ∙ legal_happens (kept.running on) on (sym kept.rounds ∙ round) e legal)),
  )

  -- the two of them, for a call of happen
  pub event_legal : {h : List Exchange} {s : Status} → History w h s → (e : ℕ) (r : Result ℕ Refusal) (s' : Status) → Does w s (Happen e) (Moved r) s' → Legal w (accepted ((Happen e, Moved r) ∷ h))
  event_legal past e r s' does = legal_kept (step_kept w keeps few (history_kept w keeps few past) (Happen e) (Moved r) s' does)

  pub event_exact : {h : List Exchange} {s : Status} → History w h s → (e : ℕ) (r : Result ℕ Refusal) (s' : Status) → Does w s (Happen e) (Moved r) s' → AcceptsExactly w h e r
  event_exact past e r s' (is, to) = λ round. accepts_exactly (history_kept w keeps few past) round e r (cc)

  -- so what settle allows, of what the plant can do, is exactly what stays legal
  pub allows_exactly : {h : List Exchange} {s : Status} → History w h s → (r : Result ℕ Refusal) → settling w s ≡ r → AllowsExactly w h r
  allows_exactly past (Err x) is = tt
  allows_exactly {h} {s} past (Ok m) is =
      let on = (settle_passed w s m is).started in
      let kept = settle_kept w keeps few (history_kept w keeps few past) (Ok m) is in
      let run = kept.running on in
      λ e possible. let (q, (p, follows, below, steps)) = possible in (
        λ allowed. happen_legal w keeps few kept e q (record { started = on; event = lt-ltb e w.setup.events below; settled = refl; allowed = allowed; steps = ap (λ x. w.plant.step x e) (follows_once w (accepted h) s.state p run.state follows) ∙ steps }),
        λ legal. let (exact, rules) = votes_generate_legal_lem w keeps run.clear in allowed_from w keeps few run refl e below (last_event (exact.whole (e ∷ accepted h) legal)).1,
      )

  pub after_settlement : {h : List Exchange} {s : Status} → History w h s → (r : Result ℕ Refusal) (s' : Status) → Does w s Settle (Allowed r) s' → AllowsExactly w h r
  after_settlement past r s' (is, to) = allows_exactly past r (cc)

  -- EQUAL SIGHTS, EQUAL VOTES
  -- a vote is the one at the estimate for what the site was shown
  pub vote_shown : {u : List ℕ} {b : Bool} {s : Status} → Kept w u b s → (i v : ℕ) → balloted w s i ≡ Ok v → v ≡ vote_mask w i (estimate w i (sight w.setup i u))
  vote_shown {u} {b} {s} kept i v is =
      let told = ballot_passed w s i v is in
      let (low, high) = and_parts (leb 1 i) (leb i w.setup.sites) told.is_site in
      let some = leb-true 1 i low in
      let small : i ≤ 4 = omega (arith, leb-true i w.setup.sites high) in
      sym told.vote ∙ ap (vote_mask w i) ((kept.running told.started).estimates i some small)

  pub equal_votes : {h : List Exchange} {s : Status} → History w h s → (i : ℕ) (r : Result ℕ Refusal) → balloted w s i ≡ r → EqualVotes w h i r
  equal_votes past i (Err x) is = tt
  equal_votes {h} {s} past i (Ok a) is = λ v alike.
      subst (λ x. (g : List Exchange) (t : Status) → History x g t → shown x i g ≡ shown w i h → (b : ℕ) (t' : Status) → Does x t (Ballot i) (Voted (Ok b)) t' → a ≡ b) (sym alike)
      (λ g t other same b t' (theirs, left).
      vote_shown (history_kept w keeps few past) i a is
      ∙ ap (λ σ. vote_mask w i (estimate w i σ)) (sym same)
      ∙ sym (vote_shown (history_kept w keeps few other) i b (cc)))

  pub after_ballot : {h : List Exchange} {s : Status} → History w h s → (i : ℕ) (r : Result ℕ Refusal) (s' : Status) → Does w s (Ballot i) (Voted r) s' → EqualVotes w h i r
  after_ballot past i r s' (is, to) = equal_votes past i r (cc)

  pub promised : Promises w
  promised = record {
    clear_exactly = λ s r s' (r₁, is, (ran, to)). let same : r₁ ≡ r = cc in subst (ClearExactly w) same (clear_exactly w r₁ ran);
    stays_legal = λ h s past. legal_kept (history_kept w keeps few past);
    accepts_exactly = λ h s past e r s' does. event_exact past e r s' does;
    equal_votes = λ h s past i r s' does. after_ballot past i r s' does;
  }
