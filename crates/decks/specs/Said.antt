-- What a sequence of frames says: each frame adds its part to what those before it say. Assumes nothing.
use Rattle.std.specs.Prelude.{ℕ, ◌-◌, cond, List, [], ◌∷◌, ◌++◌, vec_items, ◌==◌, slice_set}
use Rattle.plants.specs.Machine.{Machine, void}
use Rattle.plants.specs.Tables.{blank, means, with_step}
use Rattle.plants.specs.declared.counter.Counter.{Counter}
use Rattle.frames.specs.Frames.{Frame, header, site, table, step, counter, play}
use Rattle.decks.specs.declared.deck.Deck.{Deck}

-- The event count, the site count, the modes and a row of masks for each site, which a problem is made of; the plant's
-- table and its counter, of which the plant is the product; the specification's table; and the events to play, the
-- oldest first.
pub record Said : Type 0 where
  pub events : ℕ
  pub sites : ℕ
  pub modes : ℕ
  pub seen : List ℕ
  pub controlled : List ℕ
  pub plant : Machine
  pub counter : Counter
  pub spec : Machine
  pub plays : List ℕ

abbrev pub no_rows : List ℕ
no_rows = 0 ∷ 0 ∷ 0 ∷ 0 ∷ []

-- no frame says anything; a plant with no counter has one that counts to 0
abbrev pub nothing : Said
nothing =
    record {
      events = 0;
      sites = 0;
      modes = 0;
      seen = no_rows;
      controlled = no_rows;
      plant = void;
      counter = record { up = 0; down = 0; limit = 0 };
      spec = void;
      plays = [];
    }

abbrev pub with_plant : Said → Machine → Said
with_plant x m =
    record {
      events = x.events;
      sites = x.sites;
      modes = x.modes;
      seen = x.seen;
      controlled = x.controlled;
      plant = m;
      counter = x.counter;
      spec = x.spec;
      plays = x.plays;
    }

abbrev pub with_spec : Said → Machine → Said
with_spec x m =
    record {
      events = x.events;
      sites = x.sites;
      modes = x.modes;
      seen = x.seen;
      controlled = x.controlled;
      plant = x.plant;
      counter = x.counter;
      spec = m;
      plays = x.plays;
    }

-- role 0 is the plant's table, and role 1 the specification's
abbrev pub table_named : Said → ℕ → Machine
table_named x role = cond (role == 0) x.plant x.spec

abbrev pub with_table : Said → ℕ → Machine → Said
with_table x role m = cond (role == 0) (with_plant x m) (with_spec x m)

-- Site i has row i - 1. A table has no step until one is added.
abbrev pub adds : Said → Frame → Said
adds x (header e n m) =
    record {
      events = e;
      sites = n;
      modes = m;
      seen = x.seen;
      controlled = x.controlled;
      plant = x.plant;
      counter = x.counter;
      spec = x.spec;
      plays = x.plays;
    }
adds x (site i s c) =
    record {
      events = x.events;
      sites = x.sites;
      modes = x.modes;
      seen = slice_set x.seen (i - 1) s;
      controlled = slice_set x.controlled (i - 1) c;
      plant = x.plant;
      counter = x.counter;
      spec = x.spec;
      plays = x.plays;
    }
adds x (table r n q a) = with_table x r (blank n q a)
adds x (step r p e q) = with_table x r (with_step (table_named x r) p e q)
adds x (counter u d l) =
    record {
      events = x.events;
      sites = x.sites;
      modes = x.modes;
      seen = x.seen;
      controlled = x.controlled;
      plant = x.plant;
      counter = record { up = u; down = d; limit = l };
      spec = x.spec;
      plays = x.plays;
    }
adds x (play e) =
    record {
      events = x.events;
      sites = x.sites;
      modes = x.modes;
      seen = x.seen;
      controlled = x.controlled;
      plant = x.plant;
      counter = x.counter;
      spec = x.spec;
      plays = x.plays ++ e ∷ [];
    }

-- what a sequence of frames says, the newest frame first
abbrev pub said : List Frame → Said
said [] = nothing
said (f ∷ fs) = adds (said fs) f

-- what a deck in memory says
abbrev pub says : Deck → Said
says d =
    record {
      events = d.events;
      sites = d.sites;
      modes = d.modes;
      seen = d.seen;
      controlled = d.controlled;
      plant = means d.plant.left;
      counter = d.plant.right;
      spec = means d.spec;
      plays = vec_items d.plays;
    }
