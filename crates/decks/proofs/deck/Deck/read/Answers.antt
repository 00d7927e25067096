use Rattle.decks.proofs.Unique.{reads_once}
use Rattle.decks.proofs.deck.Deck.read.Goals as goal

pub returns-clause-only : goal.returns-clause-only
returns-clause-only c s other = reads_once _ _ s c.read_frames.ensures other
