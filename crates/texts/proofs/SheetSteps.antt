-- A line of a sheet that is let through, by what it says.
--
--   Says n clash p mates earlier l s : what the line l says, where its step is s
use Prim.Native.Nat.{ℕ, ◌+◌, ◌-◌, ◌≤◌, ◌<◌}
use mathlib.Core.Path.{◌≡◌, refl, ap, ◌∙◌}
use mathlib.Core.List.{List, ◌++◌}
use mathlib.Core.Bool.{Bool, true, false, cond, ◌&&◌}
use native.Mathlib.Omega.{arith}
use borrow.Author.Tests.{leb-true, leb-false, ltb-true}
use lib.Dec.{leb, ltb}
use Rattle.std.specs.Prelude.{Option, None, Some, Result, Ok, Err}
use Rattle.sets.specs.Lists.{any}
use Rattle.lines.specs.Words.{alone_of}
use Rattle.lines.specs.Numeral.{numeral}
use Rattle.lists.specs.Read.{inside}
use Rattle.lists.proofs.Fold.{inside_is}
use Rattle.sheets.specs.Check.{size_word, behind_of, size_of, placed, member_of_lem, step_of}
use Rattle.sheets.specs.declared.Progress.{Progress}
use Rattle.sheets.specs.declared.SheetFault.{SheetFault}
use Rattle.sheets.specs.declared.SheetFault.TheVariants.{Line, Member, Order, Twice, Clash, Extra}
use Rattle.sheets.specs.declared.Step.{Step}
use Rattle.sheets.specs.declared.Step.TheVariants.{Count, Place}
use Rattle.texts.proofs.Numerals.{alone_numeral, behind_numeral}

abbrev pub opening : Progress → ℕ → Progress
opening p s = record { left = p.left - 1; need = s; opened = p.opened + 1; fresh = true; first = p.first; floor = p.first }

abbrev pub begins : ℕ → Progress
begins k = record { left = k; need = 0; opened = 0; fresh = false; first = 0; floor = 0 }

module _ (n : ℕ) (clash : ℕ → ℕ → Bool) (p : Progress) (mates earlier : ℕ → Bool) (l : List ℕ) where
  pub record SaysSize (q : Progress) : Type 0 where
    pub size : ℕ
    pub line : l ≡ size_word ++ numeral size
    pub some : 1 ≤ size
    pub none : p.need < 1
    pub left : 1 ≤ p.left
    pub next : q ≡ opening p size

  pub record SaysMember (q : Progress) (i g : ℕ) : Type 0 where
    pub line : l ≡ numeral (i + 1)
    pub need : 1 ≤ p.need
    pub below : i < n
    pub above : p.floor ≤ i
    pub apart : earlier i ≡ false
    pub free : any n (λ j. mates j && clash i j) ≡ false
    pub next : q ≡ placed p (i + 1)
    pub group : g ≡ p.opened - 1

  abbrev pub Says : Result Step SheetFault → Type 0
  Says (Err f) = Unit {0}
  Says (Ok (Count q)) = SaysSize q
  Says (Ok (Place q i g)) = SaysMember q i g

  says_size : (a : Option ℕ) → behind_of size_word l ≡ a → p.need < 1 → 1 ≤ p.left → Says (size_of p a)
  says_size None e d f = tt
  says_size (Some s) e d f = go (leb 1 s) refl
    where
      go : (b : Bool) → leb 1 s ≡ b → Says (cond b (Ok (Count (opening p s))) (Err Line))
      go true h = record { size = s; line = behind_numeral size_word l s e; some = leb-true 1 s h; none = d; left = f; next = refl }
      go false h = tt

  says_member : (a : Option ℕ) → alone_of l ≡ a → 1 ≤ p.need → Says (member_of_lem n clash p mates earlier a)
  says_member None e d = tt
  says_member (Some u) e d = go (inside n u) refl (ltb p.floor u) refl (earlier (u - 1)) refl (any n (λ j. mates j && clash (u - 1) j)) refl
    where
      go : (a : Bool) → inside n u ≡ a → (b : Bool) → ltb p.floor u ≡ b → (x : Bool) → earlier (u - 1) ≡ x → (y : Bool) → any n (λ j. mates j && clash (u - 1) j) ≡ y
          → Says (cond a (cond b (cond x (Err Twice) (cond y (Err Clash) (Ok (Place (placed p u) (u - 1) (p.opened - 1))))) (Err Order)) (Err Member))
      go true h true i false j false k =
          let w = inside_is n u h in
          let z : u ≡ u - 1 + 1 = omega (arith, w.0) in
          record {
            line = alone_numeral l u e ∙ ap numeral z;
            need = d;
            below = omega (arith, w.0, w.1);
            above = omega (arith, ltb-true p.floor u i);
            apart = j;
            free = k;
            next = ap (placed p) z;
            group = refl;
          }
      go true h true i false j true k = tt
      go true h true i true j y k = tt
      go true h false i x j y k = tt
      go false h b i x j y k = tt

  pub says : Says (step_of n clash (Some p) mates earlier l)
  says = go (leb 1 p.need) refl (leb 1 p.left) refl
    where
      go : (y : Bool) → leb 1 p.need ≡ y → (z : Bool) → leb 1 p.left ≡ z
          → Says (cond y (member_of_lem n clash p mates earlier (alone_of l)) (cond z (size_of p (behind_of size_word l)) (Err Extra)))
      go true d z f = says_member (alone_of l) refl (leb-true 1 p.need d)
      go false d true f = says_size (behind_of size_word l) refl (leb-false 1 p.need d) (leb-true 1 p.left f)
      go false d false f = tt
