-- Where the preview's part lies, in numbers, for callers that cannot be handed a part of their own memory.
--
--   part_at t s k           : what is shown of the text s for line k, as a place in s: that line without its line feed; line 0, which is no line, has
--                            the empty part at the start. t says which text s is
--   fault_part_lem plain list s room : the part that is shown for a check with so many colour bytes; `plain` says by which reading the list is read
--   PlacePromise plain list s room p : p is that part
--
-- Which text is as in a check's numbers (specs/Promise.antt); for neither, an accepted pair, the part is empty. That the part at this place is the
-- very part that `fault_line` returns is `place_shown` of proofs/Places.antt. Part and promise are stated for any limits (`fault_part_up_to plain
-- most longest`, ..) and then named for today's. Assumes nothing.
use Rattle.std.specs.Prelude.{ℕ, zero, suc, ◌-◌, ◌≡◌, List, Bool}
use Rattle.lines.specs.Text.{place_of, line_end_lem}
use Rattle.lists.specs.Read.{most_entries, longest_text}
use Rattle.sheets.specs.Check.{check_up_to}
use Rattle.sheets.specs.Promise.{held_by, answer_in, numbers_of_lem}
use Rattle.sheets.specs.declared.Part.{Part}
use Rattle.sheets.specs.declared.Text.{Text}

abbrev pub part_at : Text → List ℕ → ℕ → Part
part_at t s zero = record { text = t; start = 0; length = 0 }
part_at t s (suc k) = record { text = t; start = place_of s k; length = line_end_lem s (place_of s k) - place_of s k }

abbrev pub fault_part_up_to : Bool → ℕ → ℕ → List ℕ → List ℕ → ℕ → Part
fault_part_up_to plain most longest list s room =
    let m = numbers_of_lem (answer_in (check_up_to plain most longest list s room)) in
    part_at m.text (held_by m.text list s) m.line

abbrev pub PlacePromiseUpTo : Bool → ℕ → ℕ → List ℕ → List ℕ → ℕ → Part → Type 0
PlacePromiseUpTo plain most longest list s room p = p ≡ fault_part_up_to plain most longest list s room

-- ---- today's limits

abbrev pub fault_part_lem : Bool → List ℕ → List ℕ → ℕ → Part
fault_part_lem plain list s room = fault_part_up_to plain most_entries longest_text list s room

abbrev pub PlacePromise : Bool → List ℕ → List ℕ → ℕ → Part → Type 0
PlacePromise plain list s room p = PlacePromiseUpTo plain most_entries longest_text list s room p
