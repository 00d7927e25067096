-- A chart of a system with three events: all its legal strings, as a tree that grows by one event at a time, with what
-- each event does after each of them. The tree of a given system computes, so that a chart is a tuple with an entry for
-- each step that is legal or bad, and one induction over strings reads it off. Then the charts of the examples, whose
-- plant stops after two events. Assumes nothing.
use Rattle.std.proofs.Common.{◌≡◌, ℕ, zero, suc, ◌<◌, Bool, false, ◌⊎◌, List, [], ◌∷◌, sym, refl, subst, inl, inr, arith}
use Rattle.plants.specs.Masks.{bit}
use Rattle.control.specs.Setup.{Setup}
use Rattle.control.specs.Systems.{System, system, first_pair, pair_step}
use Rattle.control.specs.Strings.{Leads, Legal, BadAfter}
use Rattle.control.specs.declared.pair.Pair.{Pair}
use Rattle.control.specs.declared.pair.PairStep.{PairStep}
use Rattle.control.specs.declared.pair.PairStep.TheVariants.{NoStep, Bad, Legal as To}
use Rattle.control.proofs.Strings.{legal_step, bad_step}
use Rattle.theory.specs.Example.{four_states, worked}
use Rattle.worked.specs.Cases.{early}

-- what a step comes to: B if it is bad, and L of where it leads if it is legal
abbrev pub Comes : PairStep Pair → Type 0 → (Pair → Type 0) → Type 0
Comes NoStep B L = Unit {0}
Comes Bad B L = B
Comes (To x) B L = L x

-- A tree of at most n more events from the string s, which leads to x. A bad step is on event 2 and after a string that is
-- B; event 2 is legal only after a string that is L.
module _ (w : System) (B L : List ℕ → Type 0) where
  abbrev pub Tree : ℕ → List ℕ → Pair → Type 0
  Tree zero s x = ⊥
  Tree (suc n) s x =
      Comes (pair_step w x 0) ⊥ (Tree n (0 ∷ s))
      × Comes (pair_step w x 1) ⊥ (Tree n (1 ∷ s))
      × Comes (pair_step w x 2) (B s) (λ y. L s × Tree n (2 ∷ s) y)

  abbrev Some : List ℕ → Pair → Type 0
  Some s x = (n : ℕ) × Tree n s x

  -- the tree from one string to the next
  onward : (n : ℕ) (s : List ℕ) (y x : Pair) (e : ℕ) → Tree n s y → e < 3 → pair_step w y e ≡ To x → Some (e ∷ s) x
  onward zero s y x e t low to = absurd t
  onward (suc n) s y x zero t low to = (n, subst (λ o. Comes o ⊥ (Tree n (0 ∷ s))) to t.0)
  onward (suc n) s y x (suc zero) t low to = (n, subst (λ o. Comes o ⊥ (Tree n (1 ∷ s))) to t.1)
  onward (suc n) s y x (suc (suc zero)) t low to = (n, (subst (λ o. Comes o (B s) (λ y. L s × Tree n (2 ∷ s) y)) to t.2).1)
  onward (suc n) s y x (suc (suc (suc e))) t low to = absurd (omega arith)

  -- every legal string stands in the tree
  at : Tree 3 [] (first_pair w) → w.setup.events ≡ 3 → (s : List ℕ) (x : Pair) → Leads w s x → Some s x
  at t three [] x h = (3, subst (Tree 3 []) (sym h) t)
  at t three (e ∷ s) x (y, h, to) =
      let (n, here) = at t three s y h in
      let (event, _, _) = legal_step w y e x to in
      onward n s y x e here (omega arith) to

  -- what the tree says where a string stands
  bad_here : (n : ℕ) (s : List ℕ) (x : Pair) (e : ℕ) → Tree n s x → e < 3 → pair_step w x e ≡ Bad → (e ≡ 2) × B s
  bad_here zero s x e t low bad = absurd t
  bad_here (suc n) s x zero t low bad = absurd (subst (λ o. Comes o ⊥ (Tree n (0 ∷ s))) bad t.0)
  bad_here (suc n) s x (suc zero) t low bad = absurd (subst (λ o. Comes o ⊥ (Tree n (1 ∷ s))) bad t.1)
  bad_here (suc n) s x (suc (suc zero)) t low bad = (refl, subst (λ o. Comes o (B s) (λ y. L s × Tree n (2 ∷ s) y)) bad t.2)
  bad_here (suc n) s x (suc (suc (suc e))) t low bad = absurd (omega arith)

  legal_here : (n : ℕ) (s : List ℕ) (x y : Pair) → Tree n s x → pair_step w x 2 ≡ To y → L s
  legal_here zero s x y t to = absurd t
  legal_here (suc n) s x y t to = (subst (λ o. Comes o (B s) (λ y. L s × Tree n (2 ∷ s) y)) to t.2).0

  -- what the chart says of strings
  pub record Chart : Type 0 where
    pub bad : (s : List ℕ) (e : ℕ) → BadAfter w s e → (e ≡ 2) × B s
    pub legal : (s : List ℕ) → Legal w (2 ∷ s) → L s

  pub charted : Tree 3 [] (first_pair w) → w.setup.events ≡ 3 → Chart
  charted t three = record {
    bad = λ s e (x, h, bad).
        let (n, here) = at t three s x h in
        let (p, event, _, _) = bad_step w x e bad in
        bad_here n s x e here (omega arith) bad;
    legal = λ s (y, (x, h, to)). let (n, here) = at t three s x h in legal_here n s x y here to;
  }

-- no event has happened, or one that some site sees
abbrev pub Nothing : List ℕ → Type 0
Nothing s = s ≡ []

abbrev pub OneSeen : List ℕ → Type 0
OneSeen s = (s ≡ 0 ∷ []) ⊎ (s ≡ 1 ∷ [])

-- a setup with three events, whatever its sites
abbrev three_events : Setup → Setup
three_events p =
    record { events = 3; sites = p.sites; sees = p.sees; controls = p.controls; disjunctive = p.disjunctive }

-- event 2 is bad at first and legal after one event
pub worked_chart : (p : Setup) → Chart (system (three_events p) four_states (worked false).spec) Nothing OneSeen
unfolding pair_step bit
worked_chart p =
    charted (system (three_events p) four_states (worked false).spec) Nothing OneSeen
    ((tt, tt, (inl refl, (tt, tt, tt))), (tt, tt, (inr refl, (tt, tt, tt))), refl)
    refl

-- and the other way round
pub early_chart : (b : Bool) → Chart (early b) OneSeen Nothing
unfolding pair_step bit
early_chart b =
    charted (early b) OneSeen Nothing ((tt, tt, inl refl), (tt, tt, inr refl), (refl, (tt, tt, tt))) refl
