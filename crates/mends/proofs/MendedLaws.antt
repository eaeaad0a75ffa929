-- What mending makes is a clash-free division of the entries; and two that were kept in one group of the sheet stand in one group of it.
use Prim.Native.Nat.{ℕ, ◌<◌}
use mathlib.Core.Path.{◌≡◌, sym, subst}
use mathlib.Core.List.{List}
use mathlib.Core.Bool.{Bool, not}
use native.Mathlib.Decide.{ℕ_discrete}
use lib.Dec.{T}
use Rattle.sets.specs.Lists.{In}
use Rattle.sets.proofs.TestLaws.{T?, not_t, t_not}
use Rattle.sets.proofs.MemberLaws.{In-members, members-In, members_no_dup}
use Rattle.clashes.specs.Divisions.{at, Division, clash_free}
use Rattle.clashes.specs.Matrix.{Valid}
use Rattle.clashes.proofs.ColouringLaws.{proper_free}
use Rattle.clashes.proofs.DivisionLaws.{division_canon, division_length, division_same, division_diff}
use Rattle.mends.specs.Mend.{gone, again, mended_groups, group_place, mended}
use Rattle.mends.proofs.Groups.{has, AllFree, Apart, OneGroup, over_free, over_old, over_new, over_apart, over_one, one_place, free_apart}
use Rattle.mends.proofs.Sorted.{gone_sorted, again_homeless}

module _ (n : ℕ) (clash : ℕ → ℕ → Bool) (gs : List (List ℕ)) where
  pub mended_division : Division n (mended n clash gs)
  mended_division = record {
    numbered = division_canon ℕ_discrete n (group_place (mended_groups n clash gs));
    long = division_length ℕ_discrete n (group_place (mended_groups n clash gs));
  }

  module _ (v : Valid n clash) where
    -- one that is put again was kept in no group
    homeless : (e : ℕ) → In e (again n (gone n clash gs)) → (e < n) × ¬ T (has (gone n clash gs).groups e)
    homeless e m =
        let i = In-members (λ e. not (has (gone n clash gs).groups e)) n e (subst (In e) (again_homeless n clash v gs) m) in
        (i.0, t_not (has (gone n clash gs).groups e) i.1)

    -- every entry has a group
    pub mended_has : (x : ℕ) → x < n → T (has (mended_groups n clash gs) x)
    mended_has x h = go (T? (has (gone n clash gs).groups x))
      where
        go : Dec (T (has (gone n clash gs).groups x)) → T (has (mended_groups n clash gs) x)
        go (yes a) = over_old n clash (again n (gone n clash gs)) (gone n clash gs).groups x a
        go (no a) =
            over_new n clash (again n (gone n clash gs)) (gone n clash gs).groups x
            (subst (In x) (sym (again_homeless n clash v gs)) (members-In (λ e. not (has (gone n clash gs).groups e)) n x h (not_t (has (gone n clash gs).groups x) a)))

    -- and no other
    pub mended_apart : Apart (mended_groups n clash gs)
    mended_apart =
        over_apart n clash (again n (gone n clash gs)) (gone n clash gs).groups
        (members_no_dup _ n) (λ e m. (homeless e m).1) (gone_sorted n clash v gs).apart

    mended_all_free : AllFree n clash (mended_groups n clash gs)
    mended_all_free = over_free n clash v (again n (gone n clash gs)) (gone n clash gs).groups (λ e m. (homeless e m).0) (gone_sorted n clash v gs).free

    pub mended_free : T (clash_free n clash (mended n clash gs))
    mended_free =
        proper_free n clash (mended n clash gs) (λ x y hx hy c e.
        free_apart n clash (mended_groups n clash gs) mended_all_free x y hx hy (mended_has x hx) (mended_has y hy)
        (division_diff ℕ_discrete n (group_place (mended_groups n clash gs)) x y hx hy e) c)

    -- two that were kept in one group stand in one group
    pub kept_together : (x y : ℕ) → x < n → y < n → OneGroup (gone n clash gs).groups x y → at (mended n clash gs) x ≡ at (mended n clash gs) y
    kept_together x y hx hy h =
        division_same ℕ_discrete n (group_place (mended_groups n clash gs)) x y hx hy
        (one_place (mended_groups n clash gs) x y mended_apart (over_one n clash (again n (gone n clash gs)) (gone n clash gs).groups x y h))
