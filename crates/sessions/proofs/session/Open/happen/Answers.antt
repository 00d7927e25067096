use Rattle.std.proofs.Common.{◌≡◌, true, List, None, Ok, unwrap_or, is_some, refl, sym, ap, ◌∙◌, arith, lt-ltb}
use Rattle.plants.specs.Masks.{bit}
use Rattle.control.specs.Arrangements.{meant}
use Rattle.sessions.specs.Calls.{allowed_in, happen_gates, happening, next_sites}
use Rattle.sessions.specs.Status.{Status, running}
use Rattle.sessions.specs.declared.call.Refusal.TheVariants.{NotSettled, NoStep}
use Rattle.sessions.specs.declared.session.Site.{Site}
use Rattle.sessions.proofs.Gates.{given_by, grants, happen_does}
use Rattle.sessions.proofs.session.Open.happen.Goals as goal

pub returns : goal.returns
returns g c =
    let w = meant c.args.arrangement.now in
    let s = running c.args.self.now in
    let e = c.args.event in
    let q = c.in_ok-next.next in
    let counts = c.in_ok-admit.ensures in
    let same = c.pairs-pairs.ensures in
    let settled = given_by s.round NotSettled c.in_ok-mask.mask (sym c.ok_or.ensures.value ∙ c.in_ok-mask.was) in
    let steps = sym c.step.ensures ∙ given_by c.step.result NoStep q (sym c.ok_or-2.ensures.value ∙ c.in_ok-next.was) in
    let allowed : bit (allowed_in s.round) e ≡ true = ap (λ r. bit (allowed_in r) e) settled ∙ sym c.if-not-contains.ensures.value in
    let is : happening w s e ≡ Ok q = grants (happen_gates w s e) (unwrap_or (w.plant.step s.state e) 0) (refl, (counts, (lt-ltb e w.setup.events (omega arith), (ap is_some settled, (allowed, (ap is_some steps, tt)))))) ∙ ap (λ o. Ok (unwrap_or o 0)) steps in
    let does = happen_does w s e q is in
    let after : List Site → Status = λ xs. record { started = true; plant_count = s.plant_count; spec_count = s.spec_count; site_count = s.site_count; state = q; sites = xs; round = None } in
    (does.0, ap after (c.tell_all-self.ensures ∙ ap (λ v. next_sites v s e) same) ∙ does.1)
