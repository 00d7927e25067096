use Rattle.std.proofs.Common.{sym, arith}
use Rattle.std.proofs.lemmas.Bool.{leb-true}
use Rattle.replies.proofs.Appending.{placed}
use Rattle.replies.proofs.reply.Reply.write.Goals as goal

pub returns : goal.returns
returns c = (sym c.if-not-has_room.ensures, placed (omega (arith, leb-true _ _ (sym c.if-not-has_room.ensures))) c.put.ensures)
