-- A counter and a table keep the plant's laws.
-- Assumes nothing.
use Rattle.std.specs.Prelude.{ℕ, List}
use Rattle.std.proofs.Common.{arith, rules}
use Rattle.std.proofs.lemmas.Bool.Decides.{nat_tests}
use Rattle.plants.specs.Bits.{bit-or, bit_pow}
use Rattle.plants.specs.Counters.{counter}
use Rattle.plants.specs.Machine.{Lawful}
use Rattle.plants.specs.Tables.{table}

pub counter_lawful : (up down limit : ℕ) → Lawful (counter up down limit)
counter_lawful up down limit = record {
  few = search rules;
  void_first = search rules;
  void_alphabet = search rules;
  first_within = search rules;
  from_within = search rules;
  on_known = grind (arith, nat_tests, bit-or, bit_pow);
  to_within = search rules;
}

pub table_lawful : (count first alphabet : ℕ) (row : List ℕ) → Lawful (table count first alphabet row)
table_lawful count first alphabet row = search rules
