-- The order of frames: what has been read decides which kind may follow and what its values may be. Assumes nothing.
use Rattle.std.specs.Prelude.{ℕ, ◌+◌, ◌^◌, ◌≤◌, Bool, true, false, cond, not, ◌&&◌, ◌||◌, List, [], ◌∷◌, is_some, Some, None, Option, ◌==◌, nat_le, nat_lt}
use Rattle.plants.specs.Machine.{Machine, most_states}
use Rattle.plants.specs.Masks.{bit, width}
use Rattle.control.specs.Ranges.{most_sites}
use Rattle.frames.specs.Frames.{Frame, header, site, table, step, counter, play, kind}
use Rattle.decks.specs.Said.{Said, nothing, adds, table_named}
use Rattle.frames.specs.declared.faults.FrameFault.{FrameFault}
use Rattle.frames.specs.declared.faults.FrameFault.TheVariants.{NotDue, OutOfRange, SecondStep}
use Rattle.decks.specs.declared.role.Role.{Role}
use Rattle.decks.specs.declared.role.Role.TheVariants.{Plant, Spec}
use Rattle.decks.specs.declared.stage.Stage.{Stage}
use Rattle.decks.specs.declared.stage.Stage.TheVariants.{Header, Site, PlantTable, PlantSteps, SpecTable, SpecSteps, Plays}

-- the kinds that may follow, by their numbers
abbrev pub due_kinds : Stage → List ℕ
due_kinds Header = 1 ∷ []
due_kinds (Site i) = 2 ∷ []
due_kinds PlantTable = 3 ∷ []
due_kinds PlantSteps = 3 ∷ 4 ∷ 5 ∷ []
due_kinds SpecTable = 3 ∷ []
due_kinds SpecSteps = 4 ∷ 6 ∷ []
due_kinds Plays = 6 ∷ []

abbrev pub among : ℕ → List ℕ → Bool
among k [] = false
among k (x ∷ xs) = k == x || among k xs

abbrev pub due : Stage → Frame → Bool
due s f = among (kind f) (due_kinds s)

-- What a frame leads to, with n sites in all. A table's steps may follow it, and a step changes nothing of what may follow.
abbrev pub after : ℕ → Stage → Frame → Stage
after n s (header e m c) = Site 1
after n s (site i a b) = cond (nat_lt i n) (Site (i + 1)) PlantTable
after n s (table r k q a) = cond (r == 0) PlantSteps SpecSteps
after n s (step r p e q) = s
after n s (counter u d l) = SpecTable
after n s (play e) = Plays

-- the number of a role
abbrev pub role_number : Role → ℕ
role_number Plant = 0
role_number Spec = 1

-- the site that is due, and the role of a table or a step that is due
abbrev pub due_site : Stage → ℕ
due_site Header = 0
due_site (Site i) = i
due_site PlantTable = 0
due_site PlantSteps = 0
due_site SpecTable = 0
due_site SpecSteps = 0
due_site Plays = 0

abbrev pub table_role : Stage → ℕ
table_role Header = 0
table_role (Site i) = 0
table_role PlantTable = 0
table_role PlantSteps = 1
table_role SpecTable = 1
table_role SpecSteps = 1
table_role Plays = 1

abbrev pub step_role : Stage → ℕ
step_role Header = 0
step_role (Site i) = 0
step_role PlantTable = 0
step_role PlantSteps = 0
step_role SpecTable = 1
step_role SpecSteps = 1
step_role Plays = 1

-- a table of 1 to 64 states, the first among them, over an alphabet with no bit at or above the event count
abbrev pub table_fits : ℕ → ℕ → ℕ → ℕ → Bool
table_fits events n q a = nat_le 1 n && (nat_le n most_states && (nat_lt q n && nat_lt a (2 ^ events)))

-- a step between states of the table, on an event of its alphabet
abbrev pub step_fits : Machine → ℕ → ℕ → ℕ → Bool
step_fits m p e q = nat_lt p m.count && (nat_lt q m.count && bit m.alphabet e)

-- a frame's values are in range; the masks of a header and a site and the event of a play have no range
abbrev pub in_range : Stage → Said → Frame → Bool
in_range s x (header e n m) = nat_le 1 e && (nat_le e width && (nat_le 1 n && nat_le n most_sites))
in_range s x (site i a b) = i == due_site s
in_range s x (table r n q a) = r == table_role s && table_fits x.events n q a
in_range s x (step r p e q) = r == step_role s && step_fits (table_named x r) p e q
in_range s x (counter u d l) =
    not (u == d) && (nat_lt u x.events && (nat_lt d x.events && (nat_le 1 l && nat_lt l most_states)))
in_range s x (play e) = true

-- the table has a step from that state on that event already
abbrev pub second : Said → Frame → Bool
second x (header e n m) = false
second x (site i a b) = false
second x (table r n q a) = false
second x (step r p e q) = is_some ((table_named x r).step p e)
second x (counter u d l) = false
second x (play e) = false

-- the specification's table has been read, so the deck may end
abbrev pub complete : Stage → Bool
complete Header = false
complete (Site i) = false
complete PlantTable = false
complete PlantSteps = false
complete SpecTable = false
complete SpecSteps = true
complete Plays = true

-- what has been read: which frames may follow, and what has been said
pub record State : Type 0 where
  pub stage : Stage
  pub said : Said

abbrev pub start : State
start = record { stage = Header; said = nothing }

abbrev pub moved : State → Frame → State
moved t f = record { stage = after t.said.sites t.stage f; said = adds t.said f }

-- the fault of a frame whose kind is due, and of any frame, if it has one
abbrev pub value_fault : State → Frame → ℕ → Option FrameFault
value_fault t f number =
    cond (in_range t.stage t.said f)
    (cond (second t.said f) (Some (SecondStep number)) None)
    (Some (OutOfRange number))

abbrev pub frame_fault : State → Frame → ℕ → Option FrameFault
frame_fault t f number = cond (due t.stage f) (value_fault t f number) (Some (NotDue number))

-- the site that is due is one of the problem's
abbrev pub site_placed : Stage → ℕ → Type 0
site_placed Header n = Unit {0}
site_placed (Site i) n = (1 ≤ i) × (i ≤ n) × (n ≤ most_sites)
site_placed PlantTable n = Unit {0}
site_placed PlantSteps n = Unit {0}
site_placed SpecTable n = Unit {0}
site_placed SpecSteps n = Unit {0}
site_placed Plays n = Unit {0}

abbrev pub Placed : State → Type 0
Placed t = site_placed t.stage t.said.sites
