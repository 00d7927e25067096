use Rattle.std.proofs.Common.{◌*◌, ◌≤◌, sym, subst₂, arith}
use Rattle.pairs.specs.Numbered.{numbered}
use Rattle.sessions.proofs.Rooms.{few_counts}
use Rattle.sessions.proofs.session.Open.new.Goals as goal

pub invariant_of-result : goal.invariant_of-result
invariant_of-result g c =
    let n = c.args.pairs.now in
    record { few = subst₂ (λ a b. a * b ≤ 64) (sym c.count.ensures) (sym c.count-2.ensures) (few_counts (numbered n) (omega (arith, n.few, n.counted))) }
