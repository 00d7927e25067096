use Rattle.std.proofs.Common.{◌^◌, ◌<◌, sym, ◌∙◌, arith, ltb-true, le-ltb}
use Rattle.plants.specs.Bits.{bit_high}
use Rattle.plants.proofs.masks.contains.Goals as goal

pub returns-else-event-lt-EVENTS : goal.returns-else-event-lt-EVENTS
returns-else-event-lt-EVENTS c =
    let past = c.if-event-lt-EVENTS.false in
    let fits : c.args.mask < 2 ^ 32 = omega arith in
    record {
      value = le-ltb c.args.event 32 past ∙ sym (bit_high c.args.mask 32 c.args.event fits past);
      event = λ t. ltb-true c.args.event 32 t;
    }
