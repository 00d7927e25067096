-- The systems that the decks say are the examples. Machines are equal where their steps are, and setups where their tests
-- are: a table with listed steps does not depend on their order, a row of masks is a test of the bits of its sites, and a
-- plant with a counter that counts to 0 is the plant. Assumes nothing.
use Rattle.std.proofs.Common.{◌≡◌, ℕ, zero, suc, ◌+◌, ◌-◌, ◌*◌, ◌/◌, ◌%◌, Bool, true, false, cond, ◌&&◌, ◌||◌, eqb, ltb, leb, List, [], ◌∷◌, reverse, get_or, Some, None, Option, sym, refl, ap, ◌∙◌, div-one, arith}
use mathlib.Core.Bool.{and-false, or-false, and-or_distrib_right}
use native.Mathlib.Nat.{mod-one}
use Rattle.std.proofs.lemmas.Bool.{cond-true, ne_eqb, lt-ltb}
use Rattle.std.specs.Option.{option_map}
use Rattle.plants.specs.Counters.{counter}
use Rattle.plants.specs.Machine.{Machine}
use Rattle.plants.specs.Masks.{bit}
use Rattle.plants.specs.Products.{joint_step, product}
use Rattle.plants.specs.Bits.{bit_pow, bit_zero}
use Rattle.control.specs.Problems.{filled, kept_rows, row_bit}
use Rattle.theory.specs.Example.{four_states, listed, plant_rows, spec_rows, two_sites, worked}
use Rattle.theory.proofs.Worked.{Each, listed_each, anyhow}
use Rattle.replies.specs.Decks.{said_system}
use Rattle.worked.specs.Cases.{early, uncontrolled}
use Rattle.worked.proofs.Told.{early_said, modes, worked_said}

abbrev Lists : List (ℕ × ℕ × ℕ) → ℕ → ℕ → ℕ → Type 0
Lists rows q e r = listed rows q e ≡ Some r

-- lists that have each other's rows have the same steps
same_listed : (rows others : List (ℕ × ℕ × ℕ)) → Each (Lists others) rows → Each (Lists rows) others → (q e : ℕ) → listed rows q e ≡ listed others q e
same_listed rows others there back q e = go (listed rows q e) (listed others q e) refl refl
  where
    go : (o p : Option ℕ) → listed rows q e ≡ o → listed others q e ≡ p → o ≡ p
    go (Some r) p is also = sym (listed_each (Lists others) rows there q e r is) ∙ also
    go None (Some r) is also = sym is ∙ listed_each (Lists rows) others back q e r also
    go None None is also = refl

-- machines that differ in their steps' form alone
same_steps : (count first alphabet : ℕ) (f g : ℕ → ℕ → Option ℕ) → ((q e : ℕ) → f q e ≡ g q e)
    → ◌≡◌ {A = Machine} (record { count = count; first = first; alphabet = alphabet; step = f }) (record { count = count; first = first; alphabet = alphabet; step = g })
same_steps count first alphabet f g same = λ i. record { count = count; first = first; alphabet = alphabet; step = λ q e. same q e i }

-- there are no further rows
none_past : (a c k : ℕ) → get_or (a ∷ c ∷ 0 ∷ 0 ∷ []) (suc (suc k)) 0 ≡ 0
none_past a c zero = refl
none_past a c (suc zero) = refl
none_past a c (suc (suc k)) = refl

-- site 1 has the row a and site 2 the row c
row_bits : (a c i e : ℕ) → row_bit (kept_rows 2 (a ∷ c ∷ 0 ∷ 0 ∷ [])) i e ≡ ((eqb i 1 && bit a e) || (eqb i 2 && bit c e))
row_bits a c zero e = refl
row_bits a c (suc zero) e = sym (or-false (bit a e))
row_bits a c (suc (suc zero)) e = refl
row_bits a c (suc (suc (suc i))) e =
    let past : suc (suc (suc i)) - 1 ≡ suc (suc i) = omega arith in
    let no_row : bit (get_or (a ∷ c ∷ 0 ∷ 0 ∷ []) (suc (suc (suc i)) - 1) 0) e ≡ false = ap (λ k. bit (get_or (a ∷ c ∷ 0 ∷ 0 ∷ []) k 0) e) past ∙ ap (λ m. bit m e) (none_past a c i) ∙ bit_zero e in
    ap (λ t. leb 1 (suc (suc (suc i))) && t) no_row ∙ and-false (leb 1 (suc (suc (suc i))))
    ∙ sym (ap (λ t. (t && bit a e) || (eqb (suc (suc (suc i))) 2 && bit c e)) (ne_eqb (suc (suc (suc i))) 1 (λ h. omega arith)) ∙ ap (λ t. t && bit c e) (ne_eqb (suc (suc (suc i))) 2 (λ h. omega arith)))

-- the setup of a deck, by its modes and the events controlled
same_setup : (modes controlled : ℕ) (controls : ℕ → ℕ → Bool) (disjunctive : ℕ → Bool)
    → ((i e : ℕ) → ((eqb i 1 || eqb i 2) && bit controlled e) ≡ controls i e) → ((e : ℕ) → bit modes e ≡ disjunctive e)
    → filled 3 2 modes (1 ∷ 2 ∷ 0 ∷ 0 ∷ []) (controlled ∷ controlled ∷ 0 ∷ 0 ∷ []) ≡ record { events = 3; sites = 2; sees = (two_sites false).sees; controls = controls; disjunctive = disjunctive }
same_setup modes controlled controls disjunctive by_mask by_mode =
    λ k. record { events = 3; sites = 2; sees = λ i e. seen i e k; controls = λ i e. ruled i e k; disjunctive = λ e. by_mode e k }
  where
    seen : (i e : ℕ) → row_bit (kept_rows 2 (1 ∷ 2 ∷ 0 ∷ 0 ∷ [])) i e ≡ (two_sites false).sees i e
    seen i e = row_bits 1 2 i e ∙ ap (λ t. (eqb i 1 && t) || (eqb i 2 && bit 2 e)) (bit_pow 0 e) ∙ ap (λ t. (eqb i 1 && eqb e 0) || (eqb i 2 && t)) (bit_pow 1 e)

    ruled : (i e : ℕ) → row_bit (kept_rows 2 (controlled ∷ controlled ∷ 0 ∷ 0 ∷ [])) i e ≡ controls i e
    ruled i e = row_bits controlled controlled i e ∙ sym (and-or_distrib_right (eqb i 1) (eqb i 2) (bit controlled e)) ∙ by_mask i e

two_sites_said : (b : Bool) → filled 3 2 (modes b) (1 ∷ 2 ∷ 0 ∷ 0 ∷ []) (4 ∷ 4 ∷ 0 ∷ 0 ∷ []) ≡ two_sites b
two_sites_said b =
    same_setup (modes b) 4 (two_sites b).controls (two_sites b).disjunctive (λ i e. ap (λ t. (eqb i 1 || eqb i 2) && t) (bit_pow 2 e)) (kinds b)
  where
    kinds : (c : Bool) (e : ℕ) → bit (modes c) e ≡ (c && eqb e 2)
    kinds true e = bit_pow 2 e
    kinds false e = bit_zero e

no_controllers_said : filled 3 2 0 (1 ∷ 2 ∷ 0 ∷ 0 ∷ []) (0 ∷ 0 ∷ 0 ∷ 0 ∷ []) ≡ uncontrolled.setup
no_controllers_said =
    same_setup 0 0 (λ i e. false) (λ e. false) (λ i e. ap (λ t. (eqb i 1 || eqb i 2) && t) (bit_zero e) ∙ and-false (eqb i 1 || eqb i 2)) bit_zero

-- a step that stays within its tests and keeps its state
kept_step : (a b : Bool) (f : ℕ → ℕ) (o : Option ℕ) → ((r : ℕ) → o ≡ Some r → (a ≡ true) × (b ≡ true)) → ((r : ℕ) → f r ≡ r) → cond a (cond b (option_map f o) None) None ≡ o
kept_step a b f (Some r) within same =
    let (from, on) = within r refl in
    cond-true a _ _ from ∙ cond-true b _ _ on ∙ ap Some (same r)
kept_step true true f None within same = refl
kept_step true false f None within same = refl
kept_step false b f None within same = refl

-- the plant with no counter
alone : product four_states (counter 0 0 0) ≡ four_states
alone = same_steps 4 0 7 _ (listed plant_rows) step
  where
    idle : (x e : ℕ) → joint_step four_states (counter 0 0 0) (x / 1) (x % 1) e ≡ cond (bit 7 e) (option_map (λ r. r * 1 + x % 1) (listed plant_rows x e)) None
    idle x e = rw (div-one x, bit_zero e)

    step : (x e : ℕ) → cond (ltb x 4) (joint_step four_states (counter 0 0 0) (x / 1) (x % 1) e) None ≡ listed plant_rows x e
    step x e =
        ap (λ o. cond (ltb x 4) o None) (idle x e)
        ∙ kept_step (ltb x 4) (bit 7 e) (λ r. r * 1 + x % 1) (listed plant_rows x e)
        (λ r is. let laws = (anyhow false).keeps.plant in (lt-ltb x 4 (laws.from_within x e r is), laws.on_known x e r is))
        (λ r. omega (arith, mod-one x))

-- a table has its newest step in front
table_said : (count : ℕ) (rows : List (ℕ × ℕ × ℕ)) → Each (Lists rows) (reverse rows) → Each (Lists (reverse rows)) rows
    → ◌≡◌ {A = Machine} (record { count = count; first = 0; alphabet = 7; step = listed (reverse rows) }) (record { count = count; first = 0; alphabet = 7; step = listed rows })
table_said count rows there back = same_steps count 0 7 (listed (reverse rows)) (listed rows) (same_listed (reverse rows) rows there back)

plant_said : product (worked_said 0 4).plant (counter 0 0 0) ≡ four_states
plant_said =
    ap (λ m. product m (counter 0 0 0)) (table_said 4 plant_rows (refl, (refl, (refl, (refl, (refl, tt))))) (refl, (refl, (refl, (refl, (refl, tt))))))
    ∙ alone

spec_said : (worked_said 0 4).spec ≡ (worked false).spec
spec_said = table_said 2 spec_rows (refl, (refl, (refl, tt))) (refl, (refl, (refl, tt)))

early_spec_said : (early_said 0 4).spec ≡ (early false).spec
early_spec_said = table_said 2 ((0, 2, 0) ∷ (0, 0, 1) ∷ (0, 1, 1) ∷ []) (refl, (refl, (refl, tt))) (refl, (refl, (refl, tt)))

pub worked_same : (b : Bool) → said_system (worked_said (modes b) 4) ≡ worked b
worked_same b = λ i. record { setup = two_sites_said b i; plant = plant_said i; spec = spec_said i }

pub early_same : (b : Bool) → said_system (early_said (modes b) 4) ≡ early b
early_same b = λ i. record { setup = two_sites_said b i; plant = plant_said i; spec = early_spec_said i }

pub uncontrolled_same : said_system (worked_said 0 0) ≡ uncontrolled
uncontrolled_same = λ i. record { setup = no_controllers_said i; plant = plant_said i; spec = spec_said i }
