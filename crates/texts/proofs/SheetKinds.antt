-- What a sheet's line says is one thing, and lines leave one saying.
use Prim.Native.Nat.{ℕ}
use mathlib.Core.Path.{◌≡◌, refl, sym, ap, ◌∙◌}
use mathlib.Core.List.{List, [], ◌∷◌}
use native.Mathlib.Omega.{arith}
use Rattle.std.specs.Prelude.{Option, None, Some}
use Rattle.lines.specs.Words.{alone_of}
use Rattle.sheets.specs.Check.{groups_word, size_word, behind_of}
use Rattle.texts.specs.SheetFaults.{Kind, groups_line, size_line, member_line, no_line, found, kind_of, Group, Saying, nothing, says, laid_group, laid_groups, laid}
use Rattle.texts.proofs.Numerals.{behind_numeral}

-- ---- a line

groups_unsized : (l : List ℕ) (k : ℕ) → behind_of groups_word l ≡ Some k → behind_of size_word l ≡ None
groups_unsized l k e = ap (behind_of size_word) (behind_numeral groups_word l k e)

groups_alone : (l : List ℕ) (k : ℕ) → behind_of groups_word l ≡ Some k → alone_of l ≡ None
groups_alone l k e = ap alone_of (behind_numeral groups_word l k e)

size_alone : (l : List ℕ) (s : ℕ) → behind_of size_word l ≡ Some s → alone_of l ≡ None
size_alone l s e = ap alone_of (behind_numeral size_word l s e)

differ : (v : ℕ) (a : Option ℕ) → a ≡ Some v → a ≡ None → ⊥
differ v a e f = let z : ◌≡◌ {A = ℕ} 0 1 = cc in omega arith

-- a line by what is found behind each word
module _ (l : List ℕ) where
  pub groups_kind : (k : ℕ) → behind_of groups_word l ≡ Some k → kind_of l ≡ groups_line k
  groups_kind k e = ap (λ (a : Option ℕ). found a groups_line (found (behind_of size_word l) size_line (found (alone_of l) member_line no_line))) e

  pub size_kind : (s : ℕ) → behind_of size_word l ≡ Some s → kind_of l ≡ size_line s
  size_kind s e = go (behind_of groups_word l) refl
    where
      go : (a : Option ℕ) → behind_of groups_word l ≡ a → found a groups_line (found (behind_of size_word l) size_line (found (alone_of l) member_line no_line)) ≡ size_line s
      go (Some k) f = absurd (differ s (behind_of size_word l) e (groups_unsized l k f))
      go None f = ap (λ (a : Option ℕ). found a size_line (found (alone_of l) member_line no_line)) e

  pub member_kind : (u : ℕ) → alone_of l ≡ Some u → kind_of l ≡ member_line u
  member_kind u e = go (behind_of groups_word l) refl (behind_of size_word l) refl
    where
      go : (a : Option ℕ) → behind_of groups_word l ≡ a → (b : Option ℕ) → behind_of size_word l ≡ b
          → found a groups_line (found b size_line (found (alone_of l) member_line no_line)) ≡ member_line u
      go (Some k) f b g = absurd (differ u (alone_of l) e (groups_alone l k f))
      go None f (Some s) g = absurd (differ u (alone_of l) e (size_alone l s g))
      go None f None g = ap (λ (a : Option ℕ). found a member_line no_line) e

  pub kind_groups : (k : ℕ) → kind_of l ≡ groups_line k → behind_of groups_word l ≡ Some k
  kind_groups k e = go (behind_of groups_word l) (behind_of size_word l) (alone_of l) e
    where
      go : (a b c : Option ℕ) → found a groups_line (found b size_line (found c member_line no_line)) ≡ groups_line k → a ≡ Some k
      go (Some j) b c e = let q : j ≡ k = cc in ap (λ (x : ℕ). Some x) q
      go None (Some s) c e = let z : ◌≡◌ {A = ℕ} 0 1 = cc in absurd (omega arith)
      go None None (Some u) e = let z : ◌≡◌ {A = ℕ} 0 1 = cc in absurd (omega arith)
      go None None None e = let z : ◌≡◌ {A = ℕ} 0 1 = cc in absurd (omega arith)

  pub kind_size : (s : ℕ) → kind_of l ≡ size_line s → behind_of size_word l ≡ Some s
  kind_size s e = go (behind_of groups_word l) (behind_of size_word l) (alone_of l) e
    where
      go : (a b c : Option ℕ) → found a groups_line (found b size_line (found c member_line no_line)) ≡ size_line s → b ≡ Some s
      go (Some j) b c e = let z : ◌≡◌ {A = ℕ} 0 1 = cc in absurd (omega arith)
      go None (Some j) c e = let q : j ≡ s = cc in ap (λ (x : ℕ). Some x) q
      go None None (Some u) e = let z : ◌≡◌ {A = ℕ} 0 1 = cc in absurd (omega arith)
      go None None None e = let z : ◌≡◌ {A = ℕ} 0 1 = cc in absurd (omega arith)

  pub kind_member : (u : ℕ) → kind_of l ≡ member_line u → alone_of l ≡ Some u
  kind_member u e = go (behind_of groups_word l) (behind_of size_word l) (alone_of l) e
    where
      go : (a b c : Option ℕ) → found a groups_line (found b size_line (found c member_line no_line)) ≡ member_line u → c ≡ Some u
      go (Some j) b c e = let z : ◌≡◌ {A = ℕ} 0 1 = cc in absurd (omega arith)
      go None (Some s) c e = let z : ◌≡◌ {A = ℕ} 0 1 = cc in absurd (omega arith)
      go None None (Some j) e = let q : j ≡ u = cc in ap (λ (x : ℕ). Some x) q
      go None None None e = let z : ◌≡◌ {A = ℕ} 0 1 = cc in absurd (omega arith)

-- ---- lines

abbrev opened : ℕ → Saying → Saying
opened s nothing = nothing
opened s (says k gs) = says k (record { size = s; members = [] } ∷ gs)

abbrev joined : ℕ → Saying → Saying
joined u nothing = nothing
joined u (says k []) = nothing
joined u (says k (g ∷ gs)) = says k (record { size = g.size; members = u ∷ g.members } ∷ gs)

-- what lines say, if they say anything
abbrev heard : List Kind → Saying
heard [] = nothing
heard (groups_line k ∷ l) = says k []
heard (size_line s ∷ l) = opened s (heard l)
heard (member_line u ∷ l) = joined u (heard l)
heard (no_line ∷ l) = nothing

heard_group : (s : ℕ) (us : List ℕ) (k : ℕ) (gs : List Group) → heard (laid_groups k gs) ≡ says k gs
    → heard (laid_group s us (laid_groups k gs)) ≡ says k (record { size = s; members = us } ∷ gs)
heard_group s [] k gs e = ap (opened s) e
heard_group s (u ∷ us) k gs e = ap (joined u) (heard_group s us k gs e)

heard_groups : (k : ℕ) (gs : List Group) → heard (laid_groups k gs) ≡ says k gs
heard_groups k [] = refl
heard_groups k (g ∷ gs) = heard_group g.size g.members k gs (heard_groups k gs)

heard_laid : (x : Saying) → heard (laid x) ≡ x
heard_laid nothing = refl
heard_laid (says k gs) = heard_groups k gs

pub laid_one : (x y : Saying) → laid x ≡ laid y → x ≡ y
laid_one x y e = sym (heard_laid x) ∙ ap heard e ∙ heard_laid y
