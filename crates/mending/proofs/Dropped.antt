-- The lines that the code finds dropped are those that mends says.
use Prim.Native.Nat.{ℕ, suc, ◌+◌}
use mathlib.Core.Path.{◌≡◌, refl, sym, ap, subst, ◌∙◌}
use mathlib.Core.List.{List, [], ◌∷◌, ◌++◌}
use mathlib.Core.Bool.{Bool, true, false, not}
use native.Mathlib.Omega.{arith}
use lib.Dec.{leb}
use lib.ListN.{length}
use Rattle.std.specs.Prelude.{Option, None, Some, Result, Ok, Err}
use Rattle.sets.specs.Lists.{put, over}
use Rattle.lines.specs.Text.{Text, done, unended, ended, lines_of}
use Rattle.lines.specs.Words.{alone_of}
use Rattle.lines.proofs.Basics.{cond_cases}
use Rattle.sheets.specs.Check.{groups_word, size_word, behind_of}
use Rattle.sheets.specs.declared.SheetFault.{SheetFault}
use Rattle.mends.specs.declared.Counts.{Counts}
use Rattle.mends.specs.declared.Step.{Step}
use Rattle.mends.specs.declared.Step.TheVariants.{Groups, Size, Member}
use Rattle.mends.specs.Typed.{groups_of, size_of, member_of_lem, step_of, met, Typed, is, faulty, member, group, after, typed_from, typed_of, start}
use Rattle.mends.specs.Mend.{none, taken, sees}
use Rattle.mends.specs.Report.{dropped_in, dropped_lines}
use Rattle.mending.specs.Held.{drops_of, dropped_at, dropped_of}

-- what a line can be, once "groups K" was read
abbrev Begun : Result Step SheetFault → Type 0
Begun (Err f) = Unit {0}
Begun (Ok (Groups c)) = ⊥
Begun (Ok (Size c)) = Unit {0}
Begun (Ok (Member c u)) = Unit {0}

size_begun : (c : Counts) (a : Option ℕ) → Begun (size_of c a)
size_begun c None = tt
size_begun c (Some s) = cond_cases Begun (leb 1 s) _ _ (λ _. tt) (λ _. tt)

member_begun : (c : Counts) (a : Option ℕ) → Begun (member_of_lem c a)
member_begun c None = tt
member_begun c (Some u) = tt

step_begun : (c : Counts) (l : List ℕ) → Begun (step_of (Some c) l)
step_begun c l =
    cond_cases Begun (leb 1 c.need) _ _ (λ _. member_begun c (alone_of l))
    (λ _. cond_cases Begun (leb 1 c.left) _ _ (λ _. size_begun c (behind_of size_word l)) (λ _. tt))

put_more : (b : Bool) (x : ℕ) (l m : List ℕ) → put b x (l ++ m) ≡ put b x l ++ m
put_more true x l m = refl
put_more false x l m = refl

module _ (n : ℕ) where
  -- what was typed from here on
  abbrev From : ℕ → (ℕ → Bool) → Typed → List ℕ → Type 0
  From line seen (is us gs) ls = ls ≡ dropped_in n seen line us ++ dropped_lines n (over (sees n) seen us) (line + length us) gs
  From line seen (faulty f k) ls = Unit {0}

  from_group : (line : ℕ) (seen : ℕ → Bool) (t : Typed) (ls : List ℕ) → From (line + 1) seen t ls → From line seen (group t) ls
  from_group line seen (is us gs) ls h =
      let e : line + 0 ≡ line = omega arith in
      h ∙ ap (λ (k : ℕ). dropped_lines n seen k (us ∷ gs)) (sym e)
  from_group line seen (faulty f k) ls h = tt

  from_member : (line : ℕ) (seen : ℕ → Bool) (u : ℕ) (t : Typed) (ls : List ℕ) → From (line + 1) (sees n seen u) t ls
      → From line seen (member u t) (put (not (taken n seen u)) line ls)
  from_member line seen u (is us gs) ls h =
      let e : line + 1 + length us ≡ line + suc (length us) = omega arith in
      ap (put (not (taken n seen u)) line)
      (h ∙ ap (λ (k : ℕ). dropped_in n (sees n seen u) (line + 1) us ++ dropped_lines n (over (sees n) (sees n seen u) us) k gs) e)
      ∙ put_more (not (taken n seen u)) line (dropped_in n (sees n seen u) (line + 1) us) (dropped_lines n (over (sees n) (sees n seen u) us) (line + suc (length us)) gs)
  from_member line seen u (faulty f k) ls h = tt

  from : (t : Text) (line : ℕ) (c : Counts) (seen : ℕ → Bool) → From line seen (typed_from t line (Some c)) (dropped_at n t line (Some c) seen)
  from done line c seen = cond_cases (λ (x : Typed). From line seen x []) (met (Some c)) _ _ (λ _. refl) (λ _. tt)
  from (unended l) line c seen = cond_cases (λ (x : Typed). From line seen x []) (met (Some c)) _ _ (λ _. tt) (λ _. tt)
  from (ended l t) line c seen = go (step_of (Some c) l) (step_begun c l) (from t (line + 1))
    where
      go : (st : Result Step SheetFault) → Begun st
          → ((d : Counts) (p : ℕ → Bool) → From (line + 1) p (typed_from t (line + 1) (Some d)) (dropped_at n t (line + 1) (Some d) p))
          → From line seen (after st line (typed_from t (line + 1))) (drops_of n st line seen (dropped_at n t (line + 1)))
      go (Err f) k r = tt
      go (Ok (Groups d)) k r = absurd k
      go (Ok (Size d)) k r = from_group line seen (typed_from t (line + 1) (Some d)) (dropped_at n t (line + 1) (Some d) seen) (r d seen)
      go (Ok (Member d u)) k r =
          from_member line seen u (typed_from t (line + 1) (Some d)) (dropped_at n t (line + 1) (Some d) (sees n seen u)) (r d (sees n seen u))

  -- the whole sheet
  pub dropped_are : (s : List ℕ) (gs : List (List ℕ)) → typed_of (lines_of s) ≡ is [] gs → dropped_of n s ≡ dropped_lines n none 2 gs
  dropped_are s gs e = go (lines_of s) e
    where
      first : (a : Option ℕ) (t : Text) → after (groups_of a) 1 (typed_from t 2) ≡ is [] gs → drops_of n (groups_of a) 1 none (dropped_at n t 2) ≡ dropped_lines n none 2 gs
      first None t e = let z : ◌≡◌ {A = ℕ} 0 1 = cc in absurd (omega arith)
      first (Some k) t e =
          subst (λ (x : Typed). From 2 none x (dropped_at n t 2 (Some (record { left = k; need = 0 })) none)) e
          (from t 2 (record { left = k; need = 0 }) none)

      go : (t : Text) → typed_of t ≡ is [] gs → dropped_at n t 1 start none ≡ dropped_lines n none 2 gs
      go done e = let z : ◌≡◌ {A = ℕ} 0 1 = cc in absurd (omega arith)
      go (unended l) e = let z : ◌≡◌ {A = ℕ} 0 1 = cc in absurd (omega arith)
      go (ended l t) e = first (behind_of groups_word l) t e
