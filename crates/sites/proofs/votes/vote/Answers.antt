use Rattle.std.proofs.Common.{◌≡◌, ◌<◌, sym, ap, ◌∙◌, arith}
use Rattle.plants.specs.Masks.{mask_of}
use Rattle.plants.specs.Bits.{mask_none}
use Rattle.control.proofs.Arrangements.{keeps}
use Rattle.theory.specs.Estimates.{vote}
use Rattle.pairs.specs.Numbered.{numbered}
use Rattle.sites.proofs.Exact.{by_sight}
use Rattle.sites.proofs.Masking.{fits, with_event, without_event}
use Rattle.sites.proofs.votes.vote.Goals as goal
use Rattle.sites.proofs.votes.vote.Goals.{then-says_yes, else-says_yes}

pub loop-event-init : goal.loop-event-init
loop-event-init g c = sym (mask_none _)

pub overflow_add-mask : goal.overflow_add-mask
overflow_add-mask g c =
    omega (arith, fits c.loop-event.event _ c.loop-event.mask (omega (arith, c.args.pairs.now.arrangement.now.problem.now.counts.1)) c.loop-event.invariant)

pub loop-event-preserved : goal.loop-event-preserved
loop-event-preserved g c =
    let f = vote (numbered c.args.pairs.now) c.args.site c.args.estimate in
    let few : c.loop-event.event < 32 = omega (arith, c.args.pairs.now.arrangement.now.problem.now.counts.1) in
    elim c.if-says_yes.branch [
      | then-says_yes v ↦ v.mask-is ∙ with_event c.loop-event.event f c.loop-event.mask few c.loop-event.invariant (sym c.says_yes.ensures ∙ v.if-says_yes.true)
      | else-says_yes v ↦ v.mask-is ∙ without_event c.loop-event.event f c.loop-event.mask few c.loop-event.invariant (sym c.says_yes.ensures ∙ v.if-says_yes.false)
    ]

pub returns : goal.returns
returns g c =
    let n = c.args.pairs.now in
    let w = numbered n in
    let all : c.loop-event.event ≡ w.setup.events = omega arith in
    let value = c.loop-event.invariant ∙ ap (λ k. mask_of k (vote w c.args.site c.args.estimate)) all in
    record { value = value; rules = by_sight w (keeps n.arrangement.now) c.args.site c.args.estimate c.loop-event.mask (omega (arith, n.few, n.counted)) (omega arith) value }
