use Rattle.std.proofs.Common.{◌≡◌, ◌+◌, ◌-◌, length, ap, arith}
use borrow.Rule.Slice.PartMut.{put_mid}
use Rattle.control.specs.Problems.{setup}
use Rattle.replies.specs.Lines.{Begins, strings_to, text_of}
use Rattle.replies.proofs.Appending.{onward, retold, strings_more}
use Rattle.replies.proofs.strings.put_controllers.Goals as goal
use Rattle.replies.proofs.strings.put_controllers.Goals.{After-put_controller-count}

-- with the string of one site more
added : (c : After-put_controller-count) → Begins c.args.out.now (put_mid c.loop-site.count (length c.loop-site.out - c.loop-site.count) c.loop-site.out c.put_controller-count.new.out) (c.loop-site.count + c.put_controller-count.result) (text_of (strings_to (setup c.args.problem.now) c.args.event c.args.run.now c.loop-site.site))
added c =
    let i = c.loop-site.site in
    retold (strings_more (setup c.args.problem.now) c.args.event c.args.run.now i (i - 1) (omega (arith, c.loop-site.auto.site))) (onward _ _ c.loop-site.invariant.written c.put_controller-count.ensures.line)

pub loop-site-preserved : goal.loop-site-preserved
loop-site-preserved c =
    let same : c.loop-site.site ≡ c.loop-site.site + 1 - 1 = omega arith in
    record {
      written = retold (ap (λ n. text_of (strings_to (setup c.args.problem.now) c.args.event c.args.run.now n)) same) (added (goal.at.loop-site-preserved c).After-put_controller-count);
      bound = omega (arith, c.loop-site.invariant.bound, c.put_controller-count.ensures.bound, c.loop-site.auto.site);
    }

pub returns-2 : goal.returns-2
returns-2 c =
    let last : c.loop-site.site ≡ c.args.problem.now.sites = omega (arith, c.sites-site-end.ensures) in
    retold (ap (λ n. text_of (strings_to (setup c.args.problem.now) c.args.event c.args.run.now n)) last) (added (goal.at.returns-2 c).After-put_controller-count)
