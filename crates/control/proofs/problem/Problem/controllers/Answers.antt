use Rattle.std.proofs.Common.{ℕ, ◌^◌, ◌≤◌, Bool, true, false, sym, ◌∙◌, arith, pow_mono}
use Rattle.std.proofs.lemmas.Nat.{one_shl}
use Rattle.plants.specs.Bits.{mask_none, mask_more}
use Rattle.plants.proofs.Ranges.{mask_below}
use Rattle.control.specs.Problems.{setup}
use Rattle.control.proofs.problem.Problem.controllers.Goals as goal
use Rattle.control.proofs.problem.Problem.controllers.Goals.{then-controls, else-controls}

pub loop-site-init : goal.loop-site-init
loop-site-init c = sym (mask_none _)

pub overflow_add-mask : goal.overflow_add-mask
overflow_add-mask c =
    let site = c.loop-site.site in
    let low = mask_below site (λ i. (setup c.args.self.now).controls i c.args.event) in
    let few : 2 ^ site ≤ 2 ^ 4 = pow_mono {j = 4} (omega arith) in
    omega (arith, one_shl site 8 (omega arith))

pub loop-site-preserved : goal.loop-site-preserved
loop-site-preserved c =
    let site = c.loop-site.site in
    let f : ℕ → Bool = λ i. (setup c.args.self.now).controls i c.args.event in
    let shifted = one_shl site 8 (omega arith) in
    elim c.if-controls.branch [
      | then-controls w ↦ omega (arith, mask_more site f true (sym c.controls.ensures ∙ w.if-controls.true), w.mask-is, c.loop-site.invariant)
      | else-controls w ↦ omega (arith, mask_more site f false (sym c.controls.ensures ∙ w.if-controls.false), w.mask-is, c.loop-site.invariant)
    ]
