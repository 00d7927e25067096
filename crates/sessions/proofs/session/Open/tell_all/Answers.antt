use Rattle.std.proofs.Common.{rules, arith}
use Rattle.sessions.proofs.Mapped.{callable_at_each}
use Rattle.sessions.proofs.session.Open.tell_all.Goals as goal

pub map-requires : goal.map-requires
map-requires g c =
    (omega arith, (omega arith, (omega arith, callable_at_each _ _ _ _ (λ x q k. search rules) (search rules, (search rules, (search rules, (search rules, tt)))))))
