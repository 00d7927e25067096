use Rattle.std.proofs.Common.{ℕ, ◌<◌, Bool, sym, ◌∙◌, arith}
use Rattle.plants.specs.Bits.{mask_none}
use Rattle.control.specs.Problems.{setup}
use Rattle.theory.specs.Rules.{fusion}
use Rattle.sites.proofs.Masking.{fits, with_event, without_event}
use Rattle.sessions.specs.Calls.{said}
use Rattle.sessions.specs.Status.{running}
use Rattle.sessions.proofs.session.Open.fuse.Goals as goal
use Rattle.sessions.proofs.session.Open.fuse.Goals.{then-allows, else-allows}

pub loop-event-init : goal.loop-event-init
loop-event-init c = sym (mask_none _)

pub overflow_add-mask : goal.overflow_add-mask
overflow_add-mask c = omega (arith, fits c.loop-event.event _ c.loop-event.mask (omega (arith, c.args.problem.now.counts.1)) c.loop-event.invariant)

pub loop-event-preserved : goal.loop-event-preserved
loop-event-preserved c =
    let f : ℕ → Bool = λ e. fusion (setup c.args.problem.now) e (λ i. said (running c.args.self.now) i e) in
    let few : c.loop-event.event < 32 = omega (arith, c.args.problem.now.counts.1) in
    elim c.if-allows.branch [
      | then-allows v ↦ v.mask-is ∙ with_event c.loop-event.event f c.loop-event.mask few c.loop-event.invariant (sym c.allows.ensures ∙ v.if-allows.true)
      | else-allows v ↦ v.mask-is ∙ without_event c.loop-event.event f c.loop-event.mask few c.loop-event.invariant (sym c.allows.ensures ∙ v.if-allows.false)
    ]
