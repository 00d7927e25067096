use Rattle.std.proofs.Common.{length}
use Rattle.decks.specs.Reader.{state}
use Rattle.decks.proofs.Steps.{Sofar}
use Rattle.decks.proofs.deck.read_frames.Given as goal

abbrev pub invariant-loop-rest : goal.invariant-loop-rest
invariant-loop-rest l = Sofar l.text (state l.reader) l.number l.rest

abbrev pub decreases-loop-rest : goal.decreases-loop-rest
decreases-loop-rest l = length l.rest
