-- Sound frames stand in the stated order. What may follow them says which part of the order they make up, and each frame
-- that is due and in range makes the next part of it; a frame that is not due is one case of the many that are empty.
-- Assumes nothing.
use Rattle.std.proofs.Common.{◌≡◌, ℕ, suc, ◌+◌, ◌≤◌, true, cond, eqb, ltb, leb, List, [], ◌∷◌, sym, refl, ap, ◌∙◌, subst, inl, inr, arith}
use Rattle.std.proofs.lemmas.Bool.{and_parts, cond_both, eqb-true, leb-true, ltb-true, ltb-false, false≢true}
use Rattle.plants.specs.Masks.{width}
use Rattle.control.specs.Ranges.{most_sites}
use Rattle.decks.specs.Decks.{AllSites, InOrder, IsCounter, One, PlantRead, SitesAfter, Sound, SpecRead, stage}
use Rattle.frames.specs.Frames.{Frame, header, site, table, step, counter, play}
use Rattle.decks.specs.Order.{Placed, State, after, complete, due, in_range, site_placed, step_fits, table_fits}
use Rattle.decks.specs.Said.{said, table_named}
use Rattle.decks.specs.declared.stage.Stage.{Stage}
use Rattle.decks.specs.declared.stage.Stage.TheVariants.{Header, Site, PlantTable, PlantSteps, SpecTable, SpecSteps, Plays}

-- the part of the order that stands before each stage
abbrev pub Shape : Stage → List Frame → Type 0
Shape Header fs = fs ≡ []
Shape (Site i) fs =
    (n : ℕ) × (k : ℕ) × (i ≡ suc k) × ((i ≤ n) × (n ≤ most_sites)) × ((said fs).sites ≡ n) × SitesAfter n k fs
Shape PlantTable fs = AllSites fs
Shape PlantSteps fs = PlantRead fs
Shape SpecTable fs = One IsCounter PlantRead fs
Shape SpecSteps fs = SpecRead fs
Shape Plays fs = InOrder fs

header_told : (e n : ℕ) (m : ℕ) → in_range Header (said []) (header e n m) ≡ true → (e ≤ width) × (1 ≤ n) × (n ≤ most_sites)
header_told e n m h =
    let (some, rest) = and_parts (leb 1 e) _ h in
    let (few, counts) = and_parts (leb e width) _ rest in
    let (low, high) = and_parts (leb 1 n) (leb n most_sites) counts in
    (leb-true e width few, leb-true 1 n low, leb-true n most_sites high)

-- one more site: a further one is due, or it was the last
site_more : (i j a b : ℕ) (fs : List Frame) → eqb j i ≡ true → Shape (Site i) fs → Shape (cond (ltb j (said fs).sites) (Site (j + 1)) PlantTable) (site j a b ∷ fs)
site_more i j a b fs same (n, k, is, bounds, count, before) =
    let at : j ≡ suc k = eqb-true j i same ∙ is in
    let here : SitesAfter n (suc k) (site j a b ∷ fs) = (site j a b, fs, refl, (a, b, ap (λ x. site x a b) at), before) in
    cond_both (ltb j (said fs).sites) (Site (j + 1)) PlantTable (λ s. Shape s (site j a b ∷ fs))
    (λ more. (n, suc k, omega arith, (omega (arith, ltb-true j (said fs).sites more), bounds.1), count, here))
    (λ last.
    let whole : suc k ≡ n = omega (arith, ltb-false j (said fs).sites last) in
    (n, subst (λ x. SitesAfter n x (site j a b ∷ fs)) whole here))

shape_more : (s : Stage) (f : Frame) (fs : List Frame) → due s f ≡ true → in_range s (said fs) f ≡ true → Shape s fs → Shape (after (said fs).sites s f) (f ∷ fs)
shape_more Header (header e n m) fs is_due few h =
    let parts = header_told e n m few in
    (n, 0, refl, (parts.1, parts.2), refl, (header e n m, fs, refl, (e, m, refl), h))
shape_more Header (site j a b) fs is_due few h = absurd (false≢true is_due)
shape_more Header (table r n q a) fs is_due few h = absurd (false≢true is_due)
shape_more Header (step r p e q) fs is_due few h = absurd (false≢true is_due)
shape_more Header (counter u d l) fs is_due few h = absurd (false≢true is_due)
shape_more Header (play e) fs is_due few h = absurd (false≢true is_due)
shape_more (Site i) (header e n m) fs is_due few h = absurd (false≢true is_due)
shape_more (Site i) (site j a b) fs is_due few h =
    site_more i j a b fs few h
shape_more (Site i) (table r n q a) fs is_due few h = absurd (false≢true is_due)
shape_more (Site i) (step r p e q) fs is_due few h = absurd (false≢true is_due)
shape_more (Site i) (counter u d l) fs is_due few h = absurd (false≢true is_due)
shape_more (Site i) (play e) fs is_due few h = absurd (false≢true is_due)
shape_more PlantTable (header e n m) fs is_due few h = absurd (false≢true is_due)
shape_more PlantTable (site j a b) fs is_due few h = absurd (false≢true is_due)
shape_more PlantTable (table r n q a) fs is_due few h =
    let due_role = (and_parts (eqb r 0) (table_fits (said fs).events n q a) few).0 in
    subst (λ t. Shape (cond t PlantSteps SpecSteps) (table r n q a ∷ fs)) (sym due_role)
    ([], table r n q a ∷ fs, refl, tt, (table r n q a, fs, refl, (n, q, a, ap (λ k. table k n q a) (eqb-true r 0 due_role)), h))
shape_more PlantTable (step r p e q) fs is_due few h = absurd (false≢true is_due)
shape_more PlantTable (counter u d l) fs is_due few h = absurd (false≢true is_due)
shape_more PlantTable (play e) fs is_due few h = absurd (false≢true is_due)
shape_more PlantSteps (header e n m) fs is_due few h = absurd (false≢true is_due)
shape_more PlantSteps (site j a b) fs is_due few h = absurd (false≢true is_due)
shape_more PlantSteps (table r n q a) fs is_due few h =
    let one = eqb-true r 1 (and_parts (eqb r 1) (table_fits (said fs).events n q a) few).0 in
    subst (λ k. Shape (cond (eqb k 0) PlantSteps SpecSteps) (table r n q a ∷ fs)) (sym one)
    ([], table r n q a ∷ fs, refl, tt, (table r n q a, fs, refl, (n, q, a, ap (λ k. table k n q a) one), inl h))
shape_more PlantSteps (step r p e q) fs is_due few h =
    let (new, old, is, each, rest) = h in
    let zero_role = eqb-true r 0 (and_parts (eqb r 0) (step_fits (table_named (said fs) r) p e q) few).0 in
    (step r p e q ∷ new, old, ap (λ l. step r p e q ∷ l) is, ((p, e, q, ap (λ k. step k p e q) zero_role), each), rest)
shape_more PlantSteps (counter u d l) fs is_due few h =
    (counter u d l, fs, refl, (u, d, l, refl), h)
shape_more PlantSteps (play e) fs is_due few h = absurd (false≢true is_due)
shape_more SpecTable (header e n m) fs is_due few h = absurd (false≢true is_due)
shape_more SpecTable (site j a b) fs is_due few h = absurd (false≢true is_due)
shape_more SpecTable (table r n q a) fs is_due few h =
    let one = eqb-true r 1 (and_parts (eqb r 1) (table_fits (said fs).events n q a) few).0 in
    subst (λ k. Shape (cond (eqb k 0) PlantSteps SpecSteps) (table r n q a ∷ fs)) (sym one)
    ([], table r n q a ∷ fs, refl, tt, (table r n q a, fs, refl, (n, q, a, ap (λ k. table k n q a) one), inr h))
shape_more SpecTable (step r p e q) fs is_due few h = absurd (false≢true is_due)
shape_more SpecTable (counter u d l) fs is_due few h = absurd (false≢true is_due)
shape_more SpecTable (play e) fs is_due few h = absurd (false≢true is_due)
shape_more SpecSteps (header e n m) fs is_due few h = absurd (false≢true is_due)
shape_more SpecSteps (site j a b) fs is_due few h = absurd (false≢true is_due)
shape_more SpecSteps (table r n q a) fs is_due few h = absurd (false≢true is_due)
shape_more SpecSteps (step r p e q) fs is_due few h =
    let (new, old, is, each, rest) = h in
    let one = eqb-true r 1 (and_parts (eqb r 1) (step_fits (table_named (said fs) r) p e q) few).0 in
    (step r p e q ∷ new, old, ap (λ l. step r p e q ∷ l) is, ((p, e, q, ap (λ k. step k p e q) one), each), rest)
shape_more SpecSteps (counter u d l) fs is_due few h = absurd (false≢true is_due)
shape_more SpecSteps (play e) fs is_due few h =
    (play e ∷ [], fs, refl, ((e, refl), tt), h)
shape_more Plays (header e n m) fs is_due few h = absurd (false≢true is_due)
shape_more Plays (site j a b) fs is_due few h = absurd (false≢true is_due)
shape_more Plays (table r n q a) fs is_due few h = absurd (false≢true is_due)
shape_more Plays (step r p e q) fs is_due few h = absurd (false≢true is_due)
shape_more Plays (counter u d l) fs is_due few h = absurd (false≢true is_due)
shape_more Plays (play e) fs is_due few h =
    let (new, old, is, each, rest) = h in (play e ∷ new, old, ap (λ l. play e ∷ l) is, ((e, refl), each), rest)

pub sound_shape : (fs : List Frame) → Sound fs → Shape (stage fs) fs
sound_shape [] h = refl
sound_shape (f ∷ fs) (h, next) = shape_more (stage fs) f fs next.due next.in_range (sound_shape fs h)

-- frames after which the deck may end are a whole deck
shape_whole : (s : Stage) (fs : List Frame) → Shape s fs → complete s ≡ true → InOrder fs
shape_whole Header fs h done = absurd (false≢true done)
shape_whole (Site i) fs h done = absurd (false≢true done)
shape_whole PlantTable fs h done = absurd (false≢true done)
shape_whole PlantSteps fs h done = absurd (false≢true done)
shape_whole SpecTable fs h done = absurd (false≢true done)
shape_whole SpecSteps fs h done = ([], fs, refl, tt, h)
shape_whole Plays fs h done = h

pub sound_order : (fs : List Frame) → Sound fs → complete (stage fs) ≡ true → InOrder fs
sound_order fs h done = shape_whole (stage fs) fs (sound_shape fs h) done

-- the site that is due is one of the problem's
shape_placed : (s : Stage) (fs : List Frame) → Shape s fs → site_placed s (said fs).sites
shape_placed Header fs h = tt
shape_placed (Site i) fs (n, k, is, bounds, count, before) = (omega arith, omega arith, omega arith)
shape_placed PlantTable fs h = tt
shape_placed PlantSteps fs h = tt
shape_placed SpecTable fs h = tt
shape_placed SpecSteps fs h = tt
shape_placed Plays fs h = tt

abbrev pub state_of : List Frame → State
state_of fs = record { stage = stage fs; said = said fs }

pub sound_placed : (fs : List Frame) → Sound fs → Placed (state_of fs)
sound_placed fs h = shape_placed (stage fs) fs (sound_shape fs h)
