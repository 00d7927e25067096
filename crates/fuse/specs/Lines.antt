-- What is said of a failure. Assumes nothing.
use Rattle.std.specs.Prelude.{ℕ, List, codes}
use Rattle.fuse.specs.declared.failure.Failure.{Failure}
use Rattle.fuse.specs.declared.failure.Failure.TheVariants.{Reading, Running, Writing}

abbrev pub line : Failure → List ℕ
line Reading = codes "cannot read the deck"
line Running = codes "out of memory"
line Writing = codes "cannot write the replies"
