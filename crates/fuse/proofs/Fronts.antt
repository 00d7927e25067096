-- The front of a Vec whose elements were written through a slice. The Vec's list is then the slice's, cut at the Vec's
-- length and filled up from what it held before, so where the slice is as long as the Vec, a front of the one is that of
-- the other.
use Rattle.std.proofs.Common.{◌≡◌, ℕ, ◌≤◌, List, ◌++◌, length, take, ◌∙◌, arith, take-take}
use lib.Seq.{take-append-le}

pub refilled_front : (n len : ℕ) (ws rest : List ℕ) → n ≤ length ws → length ws ≡ len → take n (take len (ws ++ rest)) ≡ take n ws
refilled_front n len ws rest h e =
    take-take n len (ws ++ rest) (omega arith) ∙ take-append-le n ws rest h
