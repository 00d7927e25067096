-- Strings and the steps that they are made of: what a legal, a bad and a possible step of a pair say of the two machines,
-- that a string leads to at most one pair, and that a legal string is possible. The steps are opened once, here; the rest
-- goes by induction on the string. Assumes nothing.
use Rattle.std.proofs.Common.{◌≡◌, ℕ, ◌<◌, true, false, ltb, List, [], ◌∷◌, Some, None, Option, sym, refl, ap, ◌∙◌, subst, ⊎_elim, arith}
use Rattle.std.proofs.lemmas.Bool.{cases_Bool, ltb-true, lt-ltb, cond-true, cond-false}
use Rattle.control.specs.Setup.{Setup}
use Rattle.control.specs.Systems.{System, first_pair, obeys, judged, outcome, pair_step}
use Rattle.control.specs.Strings.{Follows, Possible, Leads, Legal, BadAfter, sight}
use Rattle.control.specs.declared.pair.Pair.{Pair}
use Rattle.control.specs.declared.pair.PairStep.{PairStep}
use Rattle.control.specs.declared.pair.PairStep.TheVariants.{NoStep, Bad, Legal as To}

judged_to : (a b : Option ℕ) (x : Pair) → judged a b ≡ To x → (a ≡ Some x.plant) × (b ≡ Some x.spec)
judged_to None b x h = let z : ◌≡◌ {A = ℕ} 0 1 = cc in absurd (omega arith)
judged_to (Some p) None x h = let z : ◌≡◌ {A = ℕ} 0 1 = cc in absurd (omega arith)
judged_to (Some p) (Some q) x h =
    let same : ◌≡◌ {A = Pair} (record { plant = p; spec = q }) x = cc in
    (ap (λ y. Some y.plant) same, ap (λ y. Some y.spec) same)

judged_bad : (a b : Option ℕ) → judged a b ≡ Bad → (p : ℕ) × (a ≡ Some p) × (b ≡ None)
judged_bad None b h = let z : ◌≡◌ {A = ℕ} 0 1 = cc in absurd (omega arith)
judged_bad (Some p) None h = (p, refl, refl)
judged_bad (Some p) (Some q) h = let z : ◌≡◌ {A = ℕ} 0 1 = cc in absurd (omega arith)

judged_some : (a b : Option ℕ) (p : ℕ) → a ≡ Some p → judged a b ≡ NoStep → ⊥
judged_some None b p is h = let z : ◌≡◌ {A = ℕ} 0 1 = cc in omega arith
judged_some (Some q) None p is h = let z : ◌≡◌ {A = ℕ} 0 1 = cc in omega arith
judged_some (Some q) (Some r) p is h = let z : ◌≡◌ {A = ℕ} 0 1 = cc in omega arith

-- what a pair does on an event of the problem
abbrev judgement : System → Pair → ℕ → PairStep Pair
judgement w y e = judged (w.plant.step y.plant e) (obeys w y.spec e)

pub opened_step : (w : System) (x : Pair) (e : ℕ) → pair_step w x e ≡ outcome w x e
unfolding pair_step
opened_step w x e = refl

on_event : (w : System) (y : Pair) (e : ℕ) → e < w.setup.events → pair_step w y e ≡ judgement w y e
on_event w y e event = opened_step w y e ∙ cond-true (ltb e w.setup.events) _ _ (lt-ltb e w.setup.events event)

-- where a pair steps, the event is one of the problem
steps_on : (w : System) (y : Pair) (e : ℕ) (o : PairStep Pair) → (o ≡ NoStep → ⊥) → pair_step w y e ≡ o → (e < w.setup.events) × (judgement w y e ≡ o)
steps_on w y e o some is =
    ⊎_elim (λ event. let low = ltb-true e w.setup.events event in (low, sym (on_event w y e low) ∙ is))
    (λ past. absurd (some (sym is ∙ opened_step w y e ∙ cond-false (ltb e w.setup.events) _ _ past)))
    (cases_Bool (ltb e w.setup.events))

-- a legal step: on an event of the problem, by a step of the plant that the specification obeys
pub legal_step : (w : System) (y : Pair) (e : ℕ) (x : Pair) → pair_step w y e ≡ To x
    → (e < w.setup.events) × (w.plant.step y.plant e ≡ Some x.plant) × (obeys w y.spec e ≡ Some x.spec)
legal_step w y e x h =
    let (event, both) = steps_on w y e (To x) (λ n. let z : ◌≡◌ {A = ℕ} 0 1 = cc in omega arith) h in
    let (steps, obeyed) = judged_to (w.plant.step y.plant e) (obeys w y.spec e) x both in
    (event, steps, obeyed)

pub step_legal : (w : System) (y : Pair) (e p q : ℕ) → e < w.setup.events → w.plant.step y.plant e ≡ Some p
    → obeys w y.spec e ≡ Some q → pair_step w y e ≡ To (record { plant = p; spec = q })
step_legal w y e p q event steps obeyed = on_event w y e event ∙ ap (λ a. judged a (obeys w y.spec e)) steps ∙ ap (judged (Some p)) obeyed

-- a bad step: on an event of the problem, by a step of the plant that the specification does not obey
pub bad_step : (w : System) (y : Pair) (e : ℕ) → pair_step w y e ≡ Bad
    → (p : ℕ) × (e < w.setup.events) × (w.plant.step y.plant e ≡ Some p) × (obeys w y.spec e ≡ None)
bad_step w y e h =
    let (event, both) = steps_on w y e Bad (λ n. let z : ◌≡◌ {A = ℕ} 0 1 = cc in omega arith) h in
    let (p, steps, refused) = judged_bad (w.plant.step y.plant e) (obeys w y.spec e) both in
    (p, event, steps, refused)

-- where the plant steps, the step of the pair is legal or bad
pub plant_step : (w : System) (y : Pair) (e p : ℕ) → e < w.setup.events → w.plant.step y.plant e ≡ Some p → pair_step w y e ≡ NoStep → ⊥
plant_step w y e p event steps h = judged_some (w.plant.step y.plant e) (obeys w y.spec e) p steps (sym (on_event w y e event) ∙ h)

-- a step is not both legal and bad
pub legal_not_bad : (o : PairStep Pair) (x : Pair) → o ≡ To x → o ≡ Bad → ⊥
legal_not_bad o x legal bad = let z : ◌≡◌ {A = ℕ} 0 1 = cc in omega arith

-- the pair to which a string leads, if it is legal
abbrev pub landed : System → PairStep Pair → Pair
landed w NoStep = first_pair w
landed w Bad = first_pair w
landed w (To x) = x

abbrev pub reached : System → List ℕ → Pair
reached w [] = first_pair w
reached w (e ∷ s) = landed w (pair_step w (reached w s) e)

pub leads_reached : (w : System) (s : List ℕ) (x : Pair) → Leads w s x → x ≡ reached w s
leads_reached w [] x h = h
leads_reached w (e ∷ s) x (y, h, to) = sym (ap (landed w) (ap (λ v. pair_step w v e) (sym (leads_reached w s y h)) ∙ to))

pub legal_reached : (w : System) (s : List ℕ) → Legal w s → Leads w s (reached w s)
legal_reached w s (x, h) = subst (Leads w s) (leads_reached w s x h) h

-- what an event does at the end of a string, it does at the pair that the string reaches
pub at_reached : (w : System) (s : List ℕ) (x : Pair) (e : ℕ) (o : PairStep Pair) → Leads w s x → pair_step w x e ≡ o → pair_step w (reached w s) e ≡ o
at_reached w s x e o h is = ap (λ y. pair_step w y e) (sym (leads_reached w s x h)) ∙ is

pub step_reached : (w : System) (e : ℕ) (s : List ℕ) → Legal w (e ∷ s) → pair_step w (reached w s) e ≡ To (reached w (e ∷ s))
step_reached w e s legal =
    let (y, h, to) = legal_reached w (e ∷ s) legal in
    at_reached w s y e (To (reached w (e ∷ s))) h to

-- a string leads to at most one pair, and the plant follows it to at most one state
pub leads_once : (w : System) (s : List ℕ) (x y : Pair) → Leads w s x → Leads w s y → x ≡ y
leads_once w s x y hx hy = leads_reached w s x hx ∙ sym (leads_reached w s y hy)

pub follows_once : (w : System) (s : List ℕ) (p q : ℕ) → Follows w s p → Follows w s q → p ≡ q
follows_once w [] p q hp hq = cc
follows_once w (e ∷ s) p q (a, ha, ea, sa) (b, hb, eb, sb) = let before = follows_once w s a b ha hb in cc

-- the plant follows a legal string
pub leads_follows : (w : System) (s : List ℕ) (x : Pair) → Leads w s x → Follows w s x.plant
leads_follows w [] x h = ap (λ y. y.plant) h
leads_follows w (e ∷ s) x (y, h, to) =
    let (event, steps, obeyed) = legal_step w y e x to in
    (y.plant, leads_follows w s y h, event, steps)

pub legal_possible : (w : System) (s : List ℕ) → Legal w s → Possible w s
legal_possible w s (x, h) = (x.plant, leads_follows w s x h)

pub legal_front : (w : System) (e : ℕ) (s : List ℕ) → Legal w (e ∷ s) → Legal w s
legal_front w e s (x, (y, h, to)) = (y, h)

-- a bad step after a legal string is possible, and not legal
pub bad_possible : (w : System) (e : ℕ) (s : List ℕ) → BadAfter w s e → Possible w (e ∷ s)
bad_possible w e s (x, h, bad) =
    let (p, event, steps, refused) = bad_step w x e bad in
    (p, (x.plant, leads_follows w s x h, event, steps))

pub bad_not_legal : (w : System) (e : ℕ) (s : List ℕ) → BadAfter w s e → Legal w (e ∷ s) → ⊥
bad_not_legal w e s (x, hx, bad) (z, (y, hy, to)) =
    legal_not_bad (pair_step w y e) z to (ap (λ v. pair_step w v e) (leads_once w s y x hy hx) ∙ bad)

-- what site i sees and does not see of one more event
pub sight_seen : (p : Setup) (i e : ℕ) (s : List ℕ) → p.sees i e ≡ true → sight p i (e ∷ s) ≡ e ∷ sight p i s
sight_seen p i e s h = cond-true (p.sees i e) _ _ h

pub sight_unseen : (p : Setup) (i e : ℕ) (s : List ℕ) → p.sees i e ≡ false → sight p i (e ∷ s) ≡ sight p i s
sight_unseen p i e s h = cond-false (p.sees i e) _ _ h
