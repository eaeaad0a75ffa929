-- A part of lent bytes is one: two that meet `PartOf` have the same bytes at the same place.
use Prim.Native.Nat.{ℕ}
use mathlib.Core.Path.{◌≡◌, refl, sym, ◌∙◌}
use mathlib.Core.List.{List}
use denote.Ref.{Bor}
use Rattle.lines.specs.Text.{lines_of, line_no_lem, place_of, line_end_lem}
use Rattle.lines.specs.Part.{PartOf, LineOf}
use Rattle.lines.proofs.Lines.{line_is, line_no_is}

pub part_unique : (s : Bor (List ℕ)) (a e : ℕ) (r q : Bor (List ℕ)) → PartOf s a e r → PartOf s a e q → (r.now ≡ q.now) × (r.ref_ptr.0 ≡ q.ref_ptr.0) × (r.ref_ptr.1 ≡ q.ref_ptr.1)
part_unique s a e r q x y = (x.bytes ∙ sym y.bytes, x.block ∙ sym y.block, x.place ∙ sym y.place)

-- what is handed out as line k has the bytes of line k
pub line_bytes : (s : Bor (List ℕ)) (k : ℕ) (r : Bor (List ℕ)) → LineOf s (place_of s.now k) r → r.now ≡ line_no_lem (lines_of s.now) k
line_bytes s k r x = x.bytes ∙ line_is s.now (place_of s.now k) (line_end_lem s.now (place_of s.now k)) refl ∙ line_no_is s.now k
