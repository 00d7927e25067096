-- The worked cases together. Assumes nothing.
use Rattle.worked.specs.Cases.{WorkedCases}
use Rattle.worked.proofs.Checks.{checks}
use Rattle.worked.proofs.Counts.{products}
use Rattle.worked.proofs.Decks.{runs}

pub worked_cases_lem : WorkedCases
worked_cases_lem = record { checks = checks; runs = runs; products = products }
