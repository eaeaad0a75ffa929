-- What the impl of `Bits` for four words shows of its rows. Assumes nothing.
use Rattle.std.specs.Prelude.{◌≡◌, refl, List, ℕ, zero, length, replicate}
use Rattle.sets.proofs.ListLaws.{length_table}
use Rattle.wide.specs.Words.{wide, row, rows_of}

pub four_long : (l : List ℕ) → length l ≡ 1024 → length (rows_of 4 256 l) ≡ 256
four_long l e = length_table (row 4 l) 256

pub four_zero : rows_of 4 256 (replicate 1024 zero) ≡ replicate 256 zero
unfolding wide row
four_zero = refl
