use Rattle.std.proofs.Common.{◌≡◌, ◌<◌, true, vec_items, sym, refl, ap, ◌∙◌, arith, rules}
use borrow.Author.Tests.{both_ways}
use Rattle.plants.specs.Masks.{bit, width}
use Rattle.plants.proofs.Rows.{set_row, whole_table}
use Rattle.plants.proofs.table.Table.put.Goals as goal

pub returns : goal.returns
returns c =
    let t = c.args.self.now in
    let whole = whole_table t.count t.first t.alphabet (vec_items t.row) c.args.from (omega arith) in
    let known : bit t.alphabet c.args.event ≡ true = ap (λ m. bit m c.args.event) (sym whole.events) ∙ sym c.if-not-knows.ensures.value in
    let event : c.args.event < width = c.knows.ensures.event c.if-not-knows.false in
    record {
      value = search rules;
      after = λ ok. set_row t.count t.alphabet (vec_items t.row) c.args.from c.args.event c.args.to (omega arith) event known (omega arith) whole.long t.first whole.sound;
      same = λ no. absurd (both_ways true no refl);
    }
