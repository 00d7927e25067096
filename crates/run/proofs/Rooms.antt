-- There is room for the replies. The line of a play takes five bytes of the deck, so a deck has at most a fifth as many plays
-- as bytes; and the run of a clash fits the part of the trace that is lent. Assumes nothing.
use Rattle.std.proofs.Common.{◌≡◌, ℕ, zero, suc, ◌+◌, ◌-◌, ◌*◌, ◌≤◌, Bool, true, false, cond, ◌&&◌, eqb, leb, List, [], ◌∷◌, length, get_or, take, Ok, Err, Result, sym, refl, ap, ◌∙◌, ⊎_elim, arith, length-append, length-take}
use native.Mathlib.Nat.{min-le_left, min-le_right}
use Rattle.std.proofs.lemmas.Bool.{and_parts, cases_Bool, cond_both, cond-false, cond-true, eqb-true, leb-true}
use Rattle.plants.specs.Machine.{Machine}
use Rattle.plants.specs.Tables.{blank, with_step}
use Rattle.frames.specs.Digits.{byte_at}
use Rattle.frames.specs.Frames.{Frame, header, site, table, step, counter, play, frame_at, frame_of, line_lengths}
use Rattle.frames.specs.Lines.{line_feed}
use Rattle.frames.specs.declared.faults.FrameFault.{FrameFault}
use Rattle.decks.specs.Decks.{Spells, Tells}
use Rattle.decks.specs.Said.{Said, adds, said, table_named, with_plant, with_spec, with_table}

-- a line of that length is a frame of that kind, or a fault
abbrev Read : Bool → Frame → FrameFault → Result Frame FrameFault
Read b f why = cond b (Ok f) (Err why)

other : (b : Bool) (f : Frame) (why : FrameFault) (e : ℕ) → (f ≡ play e → ⊥) → Read b f why ≡ Ok (play e) → ⊥
other true f why e apart h = apart (cc)
other false f why e apart h = let z : ◌≡◌ {A = ℕ} 0 1 = cc in omega arith

taken : (b : Bool) (f : Frame) (why : FrameFault) (e : ℕ) → Read b f why ≡ Ok (play e) → b ≡ true
taken true f why e h = refl
taken false f why e h = let z : ◌≡◌ {A = ℕ} 0 1 = cc in absurd (omega arith)

-- a play's line has four digits
of_kind : (k m : ℕ) (ds : List ℕ) (why : FrameFault) (e : ℕ) → 1 ≤ k → k ≤ 6 → Read (eqb m (get_or line_lengths (k - 1) 0)) (frame_of k ds) why ≡ Ok (play e) → m ≡ 4
of_kind zero m ds why e low high h = absurd (omega arith)
of_kind (suc zero) m ds why e low high h = absurd (other (eqb m 14) _ why e (λ is. let z : ◌≡◌ {A = ℕ} 0 1 = cc in omega arith) h)
of_kind (suc (suc zero)) m ds why e low high h = absurd (other (eqb m 20) _ why e (λ is. let z : ◌≡◌ {A = ℕ} 0 1 = cc in omega arith) h)
of_kind (suc (suc (suc zero))) m ds why e low high h = absurd (other (eqb m 16) _ why e (λ is. let z : ◌≡◌ {A = ℕ} 0 1 = cc in omega arith) h)
of_kind (suc (suc (suc (suc zero)))) m ds why e low high h = absurd (other (eqb m 10) _ why e (λ is. let z : ◌≡◌ {A = ℕ} 0 1 = cc in omega arith) h)
of_kind (suc (suc (suc (suc (suc zero))))) m ds why e low high h = absurd (other (eqb m 8) _ why e (λ is. let z : ◌≡◌ {A = ℕ} 0 1 = cc in omega arith) h)
of_kind (suc (suc (suc (suc (suc (suc zero)))))) m ds why e low high h = eqb-true m 4 (taken (eqb m 4) (frame_of 6 ds) why e h)
of_kind (suc (suc (suc (suc (suc (suc (suc k))))))) m ds why e low high h = absurd (omega arith)

play_line : (l : List ℕ) (e : ℕ) → frame_at l 0 ≡ Ok (play e) → length l ≡ 4
play_line l e h =
    ⊎_elim
    (λ known.
    let (low, high) = and_parts (leb 1 (byte_at l 0)) (leb (byte_at l 0) 6) known in
    of_kind (byte_at l 0) (length l) _ _ e (leb-true 1 _ low) (leb-true _ 6 high) (sym (cond-true (leb 1 (byte_at l 0) && leb (byte_at l 0) 6) _ _ known) ∙ h))
    (λ unknown. let bad = sym (cond-false (leb 1 (byte_at l 0) && leb (byte_at l 0) 6) _ _ unknown) ∙ h in let z : ◌≡◌ {A = ℕ} 0 1 = cc in absurd (omega arith))
    (cases_Bool (leb 1 (byte_at l 0) && leb (byte_at l 0) 6))

-- a table or a step adds no play
table_plays : (x : Said) (r : ℕ) (m : Machine) → (with_table x r m).plays ≡ x.plays
table_plays x r m = cond_both (eqb r 0) (with_plant x m) (with_spec x m) (λ y. y.plays ≡ x.plays) (λ _. refl) (λ _. refl)

-- so many plays take so many bytes
taking : (f : Frame) (x : Said) (l : List ℕ) → frame_at l 0 ≡ Ok f → 5 * length (adds x f).plays ≤ 5 * length x.plays + (length l + 1)
taking (header e n m) x l is = omega arith
taking (site i s c) x l is = omega arith
taking (table r n q a) x l is = omega (arith, ap length (table_plays x r (blank n q a)))
taking (step r p e q) x l is = omega (arith, ap length (table_plays x r (with_step (table_named x r) p e q)))
taking (counter u d k) x l is = omega arith
taking (play e) x l is = omega (arith, length-append x.plays (e ∷ []), play_line l e is)

spelt_room : (fs : List Frame) (text rest : List ℕ) → Spells fs text rest → 5 * length (said fs).plays + length rest ≤ length text
spelt_room [] text rest h = omega (arith, ap length h)
spelt_room (f ∷ fs) text rest (more, h, (l, (line, is), means)) =
    omega (arith, spelt_room fs text more h, taking f (said fs) l (means 0), ap length is, length-append l (line_feed ∷ rest))

-- an output of 65,536 bytes holds fifteen for each play, and fifteen more
pub plays_room : (text : List ℕ) (x : Said) → Tells text x → 15 + 15 * length x.plays ≤ 65536
plays_room text x tells = omega (arith, spelt_room tells.frames text [] tells.spelt, ap (λ y. length y.plays) tells.yields, tells.few)

-- what fits a front of n records is at most n, and fits the whole
pub front_fits : {A : Type 0} (n k : ℕ) (xs : List A) → k ≤ length (take n xs) → (k ≤ n) × (k ≤ length xs)
front_fits n k xs h =
    (omega (arith, length-take n xs, min-le_left n (length xs)), omega (arith, length-take n xs, min-le_right n (length xs)))
