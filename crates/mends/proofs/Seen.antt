-- "Seen before", as a member kept or lifted, is that the same number stands earlier in the sheet.
--
--   stands l x : x is one of l's elements
--   flat gs    : the members of the groups gs, one after the other
use Prim.Native.Nat.{ℕ, suc, ◌-◌, ◌≤◌, ◌<◌}
use mathlib.Core.Path.{◌≡◌, refl, sym, ap, subst, ◌∙◌}
use mathlib.Core.Logic.{◌⊎◌, inl, inr, ⊎_elim}
use mathlib.Core.List.{List, [], ◌∷◌, ◌++◌}
use mathlib.Core.Bool.{Bool, true, false, cond, not, ◌&&◌}
use native.Mathlib.Omega.{arith}
use borrow.Author.Tests.{le-leb}
use lib.Dec.{T, eqb, eqb→eq}
use Rattle.sets.specs.Lists.{In, some?, over}
use Rattle.sets.proofs.TestLaws.{and_t, or_l, or_r, or_cases, not_t, eqb_of, T→true, T-ext, T?}
use Rattle.lists.specs.Read.{inside}
use Rattle.lists.proofs.Fold.{inside_is}
use Rattle.mends.specs.Mend.{none, with, Going, taken, clashes, lifting, keeping, sees, member_of_lem, group_of, start, gone}
use Rattle.mends.proofs.Groups.{with_cases, with_old, with_new}
use Rattle.mends.proofs.Sorted.{taken_is}

abbrev pub stands : List ℕ → ℕ → Bool
stands l x = some? (eqb x) l

pub stands-In : (l : List ℕ) (x : ℕ) → T (stands l x) → In x l
stands-In [] x h = h
stands-In (y ∷ l) x h = ⊎_elim (λ e. inl (eqb→eq x y e)) (λ m. inr (stands-In l x m)) (or_cases (eqb x y) (stands l x) h)

pub In-stands : (l : List ℕ) (x : ℕ) → In x l → T (stands l x)
In-stands [] x h = h
In-stands (y ∷ l) x h = ⊎_elim (λ e. or_l (eqb x y) (stands l x) (eqb_of x y e)) (λ m. or_r (eqb x y) (stands l x) (In-stands l x m)) h

abbrev pub flat : List (List ℕ) → List ℕ
flat [] = []
flat (us ∷ gs) = us ++ flat gs

-- ---- what is seen, whatever clashes

module _ (n : ℕ) where
  -- an entry that is seen once u was gone through was seen before, or is u
  sees_was : (seen : ℕ → Bool) (u x : ℕ) → T (sees n seen u x) → T (seen x) ⊎ ((x < n) × (suc x ≡ u))
  sees_was seen u x = go (taken n seen u) refl
    where
      go : (b : Bool) → taken n seen u ≡ b → T (cond b (with seen (u - 1)) seen x) → T (seen x) ⊎ ((x < n) × (suc x ≡ u))
      go true e t =
          let k = taken_is n seen u e in
          ⊎_elim inl (λ z. inr (omega (arith, k.0, k.1), omega (arith, k.0))) (with_cases seen (u - 1) x t)
      go false e t = inl t

  sees_old : (seen : ℕ → Bool) (u x : ℕ) → T (seen x) → T (sees n seen u x)
  sees_old seen u x t = go (taken n seen u)
    where
      go : (b : Bool) → T (cond b (with seen (u - 1)) seen x)
      go true = with_old seen (u - 1) x t
      go false = t

  pub entry_inside : (x : ℕ) → x < n → T (inside n (suc x))
  entry_inside x h = rw (le-leb 1 (suc x) (omega arith), le-leb (suc x) n (omega arith)) tt

  sees_new : (seen : ℕ → Bool) (x : ℕ) → x < n → T (sees n seen (suc x) x)
  sees_new seen x h = go (taken n seen (suc x)) refl (T? (seen x))
    where
      e : suc x - 1 ≡ x
      e = omega arith

      go : (b : Bool) → taken n seen (suc x) ≡ b → Dec (T (seen x)) → T (cond b (with seen (suc x - 1)) seen x)
      go true q d = subst (λ (y : ℕ). T (with seen y x)) (sym e) (with_new seen x)
      go false q (yes t) = t
      go false q (no t) =
          absurd (subst T q (and_t (inside n (suc x)) (not (seen (suc x - 1))) (entry_inside x h) (not_t (seen (suc x - 1)) (λ s. t (subst (λ (y : ℕ). T (seen y)) e s)))))

  pub seen_was : (us : List ℕ) (seen : ℕ → Bool) (x : ℕ) → T (over (sees n) seen us x) → T (seen x) ⊎ ((x < n) × In (suc x) us)
  seen_was [] seen x t = inl t
  seen_was (u ∷ us) seen x t =
      ⊎_elim (λ a. ⊎_elim inl (λ b. inr (b.0, inl b.1)) (sees_was seen u x a)) (λ a. inr (a.0, inr a.1)) (seen_was us (sees n seen u) x t)

  pub seen_old : (us : List ℕ) (seen : ℕ → Bool) (x : ℕ) → T (seen x) → T (over (sees n) seen us x)
  seen_old [] seen x t = t
  seen_old (u ∷ us) seen x t = seen_old us (sees n seen u) x (sees_old seen u x t)

  pub seen_new : (us : List ℕ) (seen : ℕ → Bool) (x : ℕ) → x < n → In (suc x) us → T (over (sees n) seen us x)
  seen_new [] seen x h m = absurd m
  seen_new (u ∷ us) seen x h m =
      ⊎_elim (λ e. seen_old us (sees n seen u) x (subst (λ (v : ℕ). T (sees n seen v x)) e (sees_new seen x h))) (λ i. seen_new us (sees n seen u) x h i) m

-- ---- on the way through a sheet

module _ (n : ℕ) (clash : ℕ → ℕ → Bool) where
  pub member_seen : (g : Going) (u : ℕ) → (member_of_lem n clash g u).seen ≡ sees n g.seen u
  member_seen g u = go (taken n g.seen u) (clashes n clash g.mates (u - 1))
    where
      go : (a b : Bool) → (cond a (cond b (lifting g (u - 1)) (keeping g (u - 1))) g).seen ≡ cond a (with g.seen (u - 1)) g.seen
      go true true = refl
      go true false = refl
      go false b = refl

  pub members_seen : (us : List ℕ) (g : Going) → (over (member_of_lem n clash) g us).seen ≡ over (sees n) g.seen us
  members_seen [] g = refl
  members_seen (u ∷ us) g = members_seen us (member_of_lem n clash g u) ∙ ap (λ (p : ℕ → Bool). over (sees n) p us) (member_seen g u)

  over_flat : (us vs : List ℕ) (seen : ℕ → Bool) → over (sees n) seen (us ++ vs) ≡ over (sees n) (over (sees n) seen us) vs
  over_flat [] vs seen = refl
  over_flat (u ∷ us) vs seen = over_flat us vs (sees n seen u)

  pub groups_seen : (gs : List (List ℕ)) (g : Going) → (over (group_of n clash) g gs).seen ≡ over (sees n) g.seen (flat gs)
  groups_seen [] g = refl
  groups_seen (us ∷ gs) g =
      groups_seen gs (group_of n clash g us)
      ∙ ap (λ (p : ℕ → Bool). over (sees n) p (flat gs)) (members_seen us g)
      ∙ sym (over_flat us (flat gs) g.seen)

  -- an entry u, at its place after the groups gs and the members us of its own: it was seen just where its number stands before it
  pub seen_stands : (gs : List (List ℕ)) (us : List ℕ) (u : ℕ) → T (inside n u)
      → (over (member_of_lem n clash) (gone n clash gs) us).seen (u - 1) ≡ stands (flat gs ++ us) u
  seen_stands gs us u i =
      ap (λ (p : ℕ → Bool). p (u - 1)) (members_seen us (gone n clash gs) ∙ ap (λ (p : ℕ → Bool). over (sees n) p us) (groups_seen gs start) ∙ sym (over_flat (flat gs) us none))
      ∙ T-ext _ _
      (λ t. ⊎_elim (λ z. absurd z) (λ a. In-stands (flat gs ++ us) u (subst (λ (v : ℕ). In v (flat gs ++ us)) e a.1)) (seen_was n (flat gs ++ us) none (u - 1) t))
      (λ t. seen_new n (flat gs ++ us) none (u - 1) (omega (arith, k.0, k.1)) (subst (λ (v : ℕ). In v (flat gs ++ us)) (sym e) (stands-In (flat gs ++ us) u t)))
    where
      k : (1 ≤ u) × (u ≤ n)
      k = inside_is n u (T→true (inside n u) i)

      e : suc (u - 1) ≡ u
      e = omega (arith, k.0)

  -- so a member is dropped just where it is no entry, or its number stands before it
  pub dropped_stands : (gs : List (List ℕ)) (us : List ℕ) (u : ℕ)
      → taken n (over (member_of_lem n clash) (gone n clash gs) us).seen u ≡ (inside n u && not (stands (flat gs ++ us) u))
  dropped_stands gs us u = go (inside n u) refl
    where
      go : (b : Bool) → inside n u ≡ b
          → (b && not ((over (member_of_lem n clash) (gone n clash gs) us).seen (u - 1))) ≡ (b && not (stands (flat gs ++ us) u))
      go true e = ap not (seen_stands gs us u (subst T (sym e) tt))
      go false e = refl
