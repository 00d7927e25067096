use Rattle.std.proofs.Common.{sym, rules, eq-eqb}
use Rattle.control.proofs.Kept.{kept_in_range, masks_told}
use Rattle.control.proofs.problem.Problem.make.Goals as goal

pub invariant_of-self : goal.invariant_of-self
invariant_of-self c =
    let fit = masks_told c.args.events c.args.modes c.keep_rows-seen.result c.keep_rows-controlled.result (sym c.if-not-masks_fit.ensures) in
    record {
      counts = search rules;
      below = fit.0;
      sights = kept_in_range c.args.events c.args.sites c.args.seen _ c.keep_rows-seen.ensures fit.1;
      controls = kept_in_range c.args.events c.args.sites c.args.controlled _ c.keep_rows-controlled.ensures fit.2;
      chosen = eq-eqb _ _ (rw c.union-events_controlled.ensures at c.if-modes-events_controlled.false);
    }
