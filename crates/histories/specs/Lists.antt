-- A list of calls with its replies, as a history. Assumes nothing.
use Rattle.std.specs.Prelude.{List, [], ◌∷◌, reverse}
use Rattle.sessions.specs.Histories.{Exchange}
use Rattle.sessions.specs.declared.call.Call.{Call}
use Rattle.sessions.specs.declared.call.Reply.{Reply}

-- each call with its reply, in order
abbrev pub paired : List Call → List Reply → List Exchange
paired [] rs = []
paired (c ∷ cs) [] = []
paired (c ∷ cs) (r ∷ rs) = (c, r) ∷ paired cs rs

-- the calls, the oldest first, with their replies, as a history has them: the newest first
abbrev pub exchanges : List Call → List Reply → List Exchange
exchanges cs rs = reverse (paired cs rs)
