-- What every arrangement keeps: its problem means a sound set-up, and its plants keep the laws of plants.
-- Assumes nothing.
use Rattle.plants.specs.declared.plant.Plant.{Ghosts}
use Rattle.control.specs.Arrangements.{meant}
use Rattle.control.specs.Systems.{Keeps}
use Rattle.control.specs.declared.arrangement.Arrangement.{Arrangement}
use Rattle.control.proofs.Sound.{setup_sound}

pub keeps : {P S : Type 0} {p : Ghosts P} {s : Ghosts S} (a : Arrangement P S p s) → Keeps (meant a)
keeps a = record { setup = setup_sound a.problem.now; plant = a.plant_keeps; spec = a.spec_keeps }
