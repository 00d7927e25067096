-- What an arrangement means. Assumes nothing.
use Rattle.plants.specs.declared.plant.Plant.{Ghosts}
use Rattle.control.specs.Problems.{setup}
use Rattle.control.specs.Systems.{System, system}
use Rattle.control.specs.declared.arrangement.Arrangement.{Arrangement}

-- what its problem, its plant and its specification mean together
abbrev pub meant : {P S : Type 0} {p : Ghosts P} {s : Ghosts S} → Arrangement P S p s → System
meant {p = p} {s = s} a = system (setup a.problem.now) (p.meaning a.plant.now) (s.meaning a.spec.now)
