-- A part of lent bytes, with its place.
--
--   PartOf s a e r : r is the part of s from place a up to, not with, place e: its bytes, in the same memory, a bytes on
--   LineOf s a r   : r is the line of s that starts at place a, without its line feed
--
-- Assumes nothing.
use Rattle.std.specs.Prelude.{ℕ, ◌+◌, ◌-◌, ◌≡◌, List, take, drop}
use Rattle.std.specs.Borrow.{Bor}
use Rattle.lines.specs.Text.{line_end_lem}

pub record PartOf (s : Bor (List ℕ)) (a e : ℕ) (r : Bor (List ℕ)) : Type 0 where
  pub bytes : r.now ≡ take (e - a) (drop a s.now)
  pub block : r.ref_ptr.0 ≡ s.ref_ptr.0
  pub place : r.ref_ptr.1 ≡ s.ref_ptr.1 + a

abbrev pub LineOf : Bor (List ℕ) → ℕ → Bor (List ℕ) → Type 0
LineOf s a r = PartOf s a (line_end_lem s.now a) r
