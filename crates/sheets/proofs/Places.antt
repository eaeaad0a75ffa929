-- The place of the preview's part: one answer, and that the part there is what `fault_line` returns.
-- Assumes nothing.
use Prim.Native.Nat.{ℕ, zero, suc, ◌+◌, ◌-◌}
use mathlib.Core.Path.{◌≡◌, refl, sym, subst, ◌∙◌}
use mathlib.Core.Bool.{Bool}
use mathlib.Core.List.{List}
use native.Mathlib.Omega.{arith}
use denote.Ref.{Bor}
use Rattle.lines.specs.Text.{place_of, line_end_lem}
use Rattle.lines.specs.Part.{PartOf}
use Rattle.lines.proofs.Lines.{start_le}
use Rattle.lists.specs.Read.{most_entries, longest_text}
use Rattle.sheets.specs.Check.{check_up_to}
use Rattle.sheets.specs.Promise.{held_by, answer_in, numbers_of_lem, ShownOf, PreviewPromiseUpTo, PreviewPromise}
use Rattle.sheets.specs.Place.{part_at, fault_part_up_to, PlacePromiseUpTo, PlacePromise}
use Rattle.sheets.specs.declared.Numbers.{Numbers}
use Rattle.sheets.specs.declared.Part.{Part}
use Rattle.sheets.specs.declared.Text.{Text}
use Rattle.sheets.specs.declared.Text.TheVariants.{Neither, TheList, TheSheet}

-- ---- it is the part that is shown

-- the part of this text that lies there
abbrev pub At : Bor (List ℕ) → Part → Bor (List ℕ) → Type 0
At s p r = PartOf s p.start (p.start + p.length) r

ends : (s : List ℕ) (a : ℕ) → a + (line_end_lem s a - a) ≡ line_end_lem s a
ends s a = omega (arith, start_le s a (line_end_lem s a) refl)

at_shown : (t : Text) (s : Bor (List ℕ)) (k : ℕ) (r : Bor (List ℕ)) → ShownOf s k r → At s (part_at t s.now k) r
at_shown t s zero r x = x
at_shown t s (suc k) r x = subst (λ (e : ℕ). PartOf s (place_of s.now k) e r) (sym (ends s.now (place_of s.now k))) x

shown_at : (t : Text) (s : Bor (List ℕ)) (k : ℕ) (r : Bor (List ℕ)) → At s (part_at t s.now k) r → ShownOf s k r
shown_at t s zero r x = x
shown_at t s (suc k) r x = subst (λ (e : ℕ). PartOf s (place_of s.now k) e r) (ends s.now (place_of s.now k)) x

text_is : (t : Text) (s : List ℕ) (k : ℕ) → (part_at t s k).text ≡ t
text_is t s zero = refl
text_is t s (suc k) = refl

-- the text that a place is in
abbrev pub holder : Bor (List ℕ) → Bor (List ℕ) → Part → Bor (List ℕ)
holder list s p = held_by p.text list s

module _ (plain : Bool) (most longest : ℕ) (list s : Bor (List ℕ)) (room : ℕ) (r : Bor (List ℕ)) where
  abbrev m : Numbers
  m = numbers_of_lem (answer_in (check_up_to plain most longest list.now s.now room))

  abbrev whole : Part
  whole = fault_part_up_to plain most longest list.now s.now room

  both : (t : Text) (k : ℕ) → ShownOf (held_by t list s) k r → At (held_by t list s) (part_at m.text (held_by t list.now s.now) k) r
  both Neither k x = at_shown m.text s k r x
  both TheList k x = at_shown m.text list k r x
  both TheSheet k x = at_shown m.text s k r x

  back : (t : Text) (k : ℕ) → At (held_by t list s) (part_at m.text (held_by t list.now s.now) k) r → ShownOf (held_by t list s) k r
  back Neither k x = shown_at m.text s k r x
  back TheList k x = shown_at m.text list k r x
  back TheSheet k x = shown_at m.text s k r x

  named : whole.text ≡ m.text
  named = text_is m.text (held_by m.text list.now s.now) m.line

  -- what `fault_line` returns lies at this place
  pub place_up_to_shown : (p : Part) → PlacePromiseUpTo plain most longest list.now s.now room p
      → PreviewPromiseUpTo plain most longest list s room r → At (holder list s p) p r
  place_up_to_shown p e x =
      subst (λ (q : Part). At (holder list s q) q r) (sym e)
      (subst (λ (t : Text). At (held_by t list s) whole r) (sym named) (both m.text m.line x))

  -- and what lies there is what it returns
  pub shown_up_to_place : (p : Part) → PlacePromiseUpTo plain most longest list.now s.now room p → At (holder list s p) p r
      → PreviewPromiseUpTo plain most longest list s room r
  shown_up_to_place p e x =
      back m.text m.line
      (subst (λ (t : Text). At (held_by t list s) whole r) named (subst (λ (q : Part). At (holder list s q) q r) e x))

-- ---- one answer, with any limits and with today's

pub place_up_to_unique : (plain : Bool) (most longest : ℕ) (list s : List ℕ) (room : ℕ) (p q : Part)
    → PlacePromiseUpTo plain most longest list s room p → PlacePromiseUpTo plain most longest list s room q → p ≡ q
place_up_to_unique plain most longest list s room p q x y = x ∙ sym y

pub place_unique : (plain : Bool) (list s : List ℕ) (room : ℕ) (p q : Part) → PlacePromise plain list s room p → PlacePromise plain list s room q → p ≡ q
place_unique plain = place_up_to_unique plain most_entries longest_text

pub place_shown : (plain : Bool) (list s : Bor (List ℕ)) (room : ℕ) (r : Bor (List ℕ)) (p : Part) → PlacePromise plain list.now s.now room p
    → PreviewPromise plain list s room r → At (holder list s p) p r
place_shown plain = place_up_to_shown plain most_entries longest_text

pub shown_place : (plain : Bool) (list s : Bor (List ℕ)) (room : ℕ) (r : Bor (List ℕ)) (p : Part) → PlacePromise plain list.now s.now room p
    → At (holder list s p) p r → PreviewPromise plain list s room r
shown_place plain = shown_up_to_place plain most_entries longest_text
