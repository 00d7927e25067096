use Rattle.std.proofs.Common.{length, sym, arith}
use Rattle.std.proofs.lemmas.Bool.{and_from, le-leb, leb-true}
use Rattle.replies.proofs.Appending.{placed}
use Rattle.replies.proofs.strings.write_clash.Goals as goal

pub returns : goal.returns
returns c =
    let room = sym c.if-not-has_room.ensures in
    (and_from _ _ (le-leb (length c.args.run.now) 256 c.if-run-gt-MOST_MOVES.false) room, placed (omega (arith, leb-true _ _ room)) c.put_clash.ensures)
