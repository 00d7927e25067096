use Rattle.run.proofs.Unique.{only}
use Rattle.run.proofs.running.run.Goals as goal

pub returns : goal.returns
returns c = record { ran = c.perform.ensures; only = only _ _ _ }
