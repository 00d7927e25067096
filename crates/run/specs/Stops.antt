-- Why a deck is not run to its end, from why it yields nothing. Assumes nothing.
use Rattle.decks.specs.declared.unread.Unread.{Unread}
use Rattle.decks.specs.declared.unread.Unread.TheVariants as unread
use Rattle.run.specs.declared.stop.Fault.TheVariants.{Text}
use Rattle.run.specs.declared.stop.Stop.{Stop}
use Rattle.run.specs.declared.stop.Stop.TheVariants.{Faulty, OutOfMemory}

abbrev pub stop_of : Unread → Stop
stop_of (unread.Faulty why) = Faulty (Text why)
stop_of unread.OutOfMemory = OutOfMemory
