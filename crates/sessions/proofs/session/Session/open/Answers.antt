use Rattle.std.proofs.Common.{◌≡◌, ◌<◌, cond, MatchOption, Ok, Err, sym, refl, ap, ◌∙◌, subst}
use Rattle.std.proofs.lemmas.Result.{err_from_is_err_and}
use Rattle.control.specs.Arrangements.{meant}
use Rattle.control.proofs.Arrangements.{keeps}
use Rattle.theory.specs.Estimates.{pairs}
use Rattle.pairs.specs.Numbered.{numbered}
use Rattle.sessions.specs.Calls.{is_clear, opened}
use Rattle.sessions.specs.Status.{status}
use Rattle.sessions.proofs.Rooms.{numbers, verdict_few}
use Rattle.sessions.proofs.session.Session.open.Goals as goal

pub unwrap-pairs-requires : goal.unwrap-pairs-requires
unwrap-pairs-requires g c =
    let w = meant c.args.arrangement.now in
    numbers w _ c.of.result c.of.ensures (keeps c.args.arrangement.now) (verdict_few w c.args.cells.now c.check.new.cells c.args.trace.now c.check.new.trace c.in_ok-verdict.verdict c.in_ok-verdict.ensures.checked)

pub returns-in_err-verdict-clause-does : goal.returns-in_err-verdict-clause-does
returns-in_err-verdict-clause-does g c =
    let (x, is, from) = err_from_is_err_and c.from_residual.result c.from_residual.ensures.1 in
    rw is (Err x, refl, ((c.args.cells.now, c.check.new.cells, c.args.trace.now, c.check.new.trace, rw from c.in_err-verdict.ensures.checked), refl))

pub returns-in-Clear-clause-does : goal.returns-in-Clear-clause-does
returns-in-Clear-clause-does g c =
    (_, refl, ((c.args.cells.now, c.check.new.cells, c.args.trace.now, c.check.new.trace, c.in_ok-verdict.ensures.checked), c.new.ensures ∙ ap opened (subst (λ o. MatchOption o (64 < pairs (meant c.args.arrangement.now)) (λ n. numbered n ≡ meant c.args.arrangement.now)) c.unwrap-pairs.ensures c.of.ensures) ∙ sym (ap (λ v. cond (is_clear (Ok v)) (opened (meant c.args.arrangement.now)) (status c.args.self.now)) c.in-Clear.is)))

pub returns-in_default-clause-does : goal.returns-in_default-clause-does
returns-in_default-clause-does g c =
    (_, refl, ((c.args.cells.now, c.check.new.cells, c.args.trace.now, c.check.new.trace, c.in_ok-verdict.ensures.checked), sym (ap (λ v. cond (is_clear (Ok v)) (opened (meant c.args.arrangement.now)) (status c.args.self.now)) c.in_default.is)))
