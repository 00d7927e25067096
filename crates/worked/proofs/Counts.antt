-- The counts of a product, by putting the counts of its parts into the test of whether they join. Assumes nothing.
use Rattle.std.proofs.Common.{◌≡◌, ℕ, ◌*◌, ◌&&◌, leb, ap, ◌∙◌}
use Rattle.std.proofs.lemmas.Bool.{cond-true, cond-false}
use Rattle.plants.specs.Machine.{Machine, most_states}
use Rattle.plants.specs.Products.{joins}
use Rattle.worked.specs.Cases.{ProductsCount}

size : (a b : Machine) (m n : ℕ) → a.count ≡ m → b.count ≡ n → a.count * b.count ≡ m * n
size a b m n p q = cc

fit : (a b : Machine) (m n : ℕ) → a.count ≡ m → b.count ≡ n → joins a b ≡ (leb 1 (m * n) && leb (m * n) most_states)
fit a b m n p q = ap (λ k. leb 1 k && leb k most_states) (size a b m n p q)

pub products : ProductsCount
products = record {
  largest = λ a b p q. ap (λ (m : Machine). m.count) (cond-true (joins a b) _ _ (fit a b 8 8 p q)) ∙ size a b 8 8 p q;
  void = λ a b p q. cond-false (joins a b) _ _ (fit a b 8 9 p q);
}
