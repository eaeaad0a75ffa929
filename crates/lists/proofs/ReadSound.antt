-- An accepted text's rows are those of a clash list: no stray bit, none of its own, and none that is not returned.
--
--   Clean n g : each bit of g is between two different entries of n, and is returned
--   Known h g : the rows g are clean for what is known, h
use Prim.Native.Nat.{ℕ, ◌+◌, ◌-◌, ◌≤◌, ◌<◌}
use mathlib.Core.Path.{◌≡◌, refl, sym, ap, subst, ◌∙◌}
use mathlib.Core.List.{List}
use mathlib.Core.Bool.{Bool, ◌&&◌}
use mathlib.Core.Logic.{inl, inr, ⊎_elim}
use native.Mathlib.Omega.{arith}
use borrow.Author.Tests.{leb-true, eqb-false}
use lib.Dec.{T, leb, eqb}
use lib.ListN.{length, take, length-replicate}
use lib.Seq.{get_or-take, length-take-le}
use Rattle.std.specs.Prelude.{Option, None, Some, Result, Ok, Err}
use Rattle.sets.specs.Set.{has}
use Rattle.clashes.specs.Matrix.{matrix, SoundUpTo, Sound}
use Rattle.lines.specs.Text.{Text, done, unended, ended, lines_of}
use Rattle.lines.proofs.Basics.{cond_cases}
use Rattle.lists.specs.Shape.{shape_of}
use Rattle.lists.specs.Expect.{spot_of}
use Rattle.lists.specs.Read.{no_rows_up_to, inside, edge_of, step_up_to, join, after, read_from_up_to, start, read_up_to, most_entries, longest_text, read_of}
use Rattle.lists.specs.declared.Shape.{Shape}
use Rattle.lists.specs.declared.Shape.TheVariants.{Comment, P, E}
use Rattle.lists.specs.declared.Head.{Head}
use Rattle.lists.specs.declared.Unread.{Unread}
use Rattle.lists.specs.declared.Gathered.{Gathered}
use Rattle.lists.specs.declared.Step.{Step}
use Rattle.lists.specs.declared.Step.TheVariants.{Go, Edge}
use Rattle.lists.specs.declared.Spot.{Spot}
use Rattle.lists.proofs.Fold.{inside_is, join_length}
use Rattle.lists.proofs.Marks.{join_was, join_old, join_new, none_bare}

-- a bit between two different entries, that is returned
pub record Fair (n : ℕ) (g : List ℕ) (a b : ℕ) : Type 0 where
  pub first : a < n
  pub second : b < n
  pub apart : a ≡ b → ⊥
  pub back : T (matrix g b a)

module _ (most : ℕ) where
  pub record Clean (n : ℕ) (g : List ℕ) : Type 0 where
    pub few : n ≤ most
    pub size : length g ≡ most
    pub bits : (a b : ℕ) → T (matrix g a b) → Fair n g a b

  -- before the p line there is no entry
  abbrev pub Known : Option Head → List ℕ → Type 0
  Known None g = Clean 0 g
  Known (Some h) g = Clean h.n g

  -- ---- a step keeps it

  clean_none : (m : ℕ) (g : List ℕ) → m ≤ most → Clean 0 g → Clean m g
  clean_none m g h c = record { few = h; size = c.size; bits = λ a b t. absurd (let x = (c.bits a b t).first in omega arith) }

  clean_join : (n : ℕ) (g : List ℕ) (i j : ℕ) → i < n → j < n → (i ≡ j → ⊥) → Clean n g → Clean n (join g i j)
  clean_join n g i j hi hj d c =
      let f = c.few in
      let s = c.size in
      let li : i < length g = omega arith in
      let lj : j < length g = omega arith in
      record {
        few = f;
        size = join_length g i j ∙ s;
        bits = λ a b t. ⊎_elim
            (λ p. let x = c.bits a b p in record { first = x.first; second = x.second; apart = x.apart; back = join_old g i j li lj b a x.back })
            (λ p. ⊎_elim
            (λ e. record { first = omega (arith, e.0); second = omega (arith, e.1); apart = λ q. d (sym e.0 ∙ q ∙ e.1); back = join_new g i j li lj b a (inr (e.1, e.0)) })
            (λ e. record { first = omega (arith, e.0); second = omega (arith, e.1); apart = λ q. d (sym e.1 ∙ sym q ∙ e.0); back = join_new g i j li lj b a (inl (e.1, e.0)) })
            p)
            (join_was g i j li lj a b t);
      }

  abbrev After : List ℕ → Result Step Spot → Type 0
  After g (Err p) = Unit {0}
  After g (Ok (Go h)) = Known h g
  After g (Ok (Edge h i j)) = Clean h.n (join g i j)

  known_edge : (h : Head) (g : List ℕ) (u v : ℕ) → Clean h.n g → After g (edge_of h u v)
  known_edge h g u v k =
      cond_cases (After g) (inside h.n u) _ _
      (λ iu. cond_cases (After g) (inside h.n v) _ _
      (λ iv. let x = inside_is h.n u iu in let y = inside_is h.n v iv in
      cond_cases (After g) (eqb u v) _ _ (λ _. tt)
      (λ e. let d = eqb-false u v e in clean_join h.n g (u - 1) (v - 1) (omega arith) (omega arith) (λ q. d (omega arith)) k))
      (λ _. tt))
      (λ _. tt)

  known_step : (h : Option Head) (g : List ℕ) (room : ℕ) (p : Spot) (s : Option Shape) → Known h g → After g (step_up_to most h room p s)
  known_step h g room p None k = tt
  known_step h g room p (Some Comment) k = k
  known_step (Some h) g room p (Some (P n m)) k = tt
  known_step None g room p (Some (P n m)) k =
      cond_cases (After g) (leb n most) _ _
      (λ l. cond_cases (After g) (leb n room) _ _ (λ _. clean_none n g (leb-true n most l) k) (λ _. tt))
      (λ _. tt)
  known_step (Some h) g room p (Some (E u v)) k = known_edge h g u v k
  known_step None g room p (Some (E u v)) k = tt

  -- ---- and so a text does

  abbrev Cleaned : Result Gathered Unread → Type 0
  Cleaned (Ok f) = Clean f.n f.rows
  Cleaned (Err u) = Unit {0}

  from_clean : (plain : Bool) (t : Text) (room l : ℕ) (h : Option Head) (g : List ℕ) → Known h g → Cleaned (read_from_up_to plain most t room l h g)
  from_clean plain done room l None g k = tt
  from_clean plain done room l (Some h) g k = cond_cases Cleaned (eqb h.count h.m) _ _ (λ _. k) (λ _. tt)
  from_clean plain (unended x) room l h g k = tt
  from_clean plain (ended x t) room l h g k =
      go (step_up_to most h room (spot_of x) (shape_of x)) (known_step h g room (spot_of x) (shape_of x) k) (from_clean plain t room (l + 1))
    where
      go : (st : Result Step Spot) → After g st → ((h : Option Head) (g : List ℕ) → Known h g → Cleaned (read_from_up_to plain most t room (l + 1) h g))
          → Cleaned (after plain st g l (read_from_up_to plain most t room (l + 1)))
      go (Err p) d r = tt
      go (Ok (Go y)) d r = r y g d
      go (Ok (Edge y i j)) d r = cond_cases Cleaned (plain && matrix g i j) _ _ (λ _. tt) (λ _. r (Some y) (join g i j) d)

  start_known : Known start (no_rows_up_to most)
  start_known = record { few = omega arith; size = length-replicate most 0; bits = λ a b t. absurd (none_bare most a b t) }

  -- ---- the first n rows

  clean_sound : (n : ℕ) (g : List ℕ) → Clean n g → SoundUpTo most (take n g)
  clean_sound n g c =
      let f = c.few in
      let z = c.size in
      let s : length (take n g) ≡ n = length-take-le n g (omega arith) in
      let same : (a b : ℕ) → a < length (take n g) → matrix (take n g) a b ≡ matrix g a b = λ a b l. ap (λ (x : ℕ). has x b) (get_or-take n g a 0 (omega arith)) in
      let fair : (a b : ℕ) → a < length (take n g) → T (matrix (take n g) a b) → Fair n g a b = λ a b l t. c.bits a b (subst T (same a b l) t) in
      record {
        apart = record {
          inside = record { few = omega arith; no_stray = λ i l h. let x = (fair i h.0 l h.2).second in omega (arith, h.1) };
          no_itself = λ i l t. (fair i i l t).apart refl;
        };
        no_one_sided = λ i l h. let x = fair i h.0 l h.2 in h.3 (subst T (sym (same h.0 i h.1)) x.back);
      }

-- ---- the law

module _ (plain : Bool) (most longest : ℕ) where
  read_clean : (s : List ℕ) (room : ℕ) → Cleaned most (read_up_to plain most longest s room)
  read_clean s room = cond_cases (Cleaned most) (leb (length s) longest) _ _ (λ _. from_clean most plain (lines_of s) room 1 start (no_rows_up_to most) (start_known most)) (λ _. tt)

  pub read_up_to_sound : (s : List ℕ) (room : ℕ) (f : Gathered) → read_up_to plain most longest s room ≡ Ok f → SoundUpTo most (take f.n f.rows)
  read_up_to_sound s room f e = clean_sound most f.n f.rows (subst (Cleaned most) e (read_clean s room))

pub read_sound : (plain : Bool) (s : List ℕ) (room : ℕ) (f : Gathered) → read_of plain s room ≡ Ok f → Sound (take f.n f.rows)
read_sound plain = read_up_to_sound plain most_entries longest_text
