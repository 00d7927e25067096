use Rattle.std.proofs.Common.{◌-◌, ◌&&◌, get_or, sym, ap, ⊎_elim, arith}
use borrow.Author.Tests.{lt-leb}
use Rattle.std.proofs.lemmas.List.{get_or_past}
use Rattle.plants.specs.Masks.{bit}
use Rattle.control.proofs.Kept.{no_bit}
use Rattle.control.proofs.problem.questions.in_row.Goals as goal

pub returns-then-site-lt1 : goal.returns-then-site-lt1
returns-then-site-lt1 c =
    let rows = c.args.rows.now in
    let i = c.args.site in
    ⊎_elim (λ none. sym (ap (λ b. b && bit (get_or rows (i - 1) 0) c.args.event) (lt-leb 1 i none)))
    (λ past. sym (no_bit rows i c.args.event (get_or_past rows (i - 1) 0 (omega (arith, c.told-rows, past.1)))))
    c.then-site-lt1.either
