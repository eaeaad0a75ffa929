-- What holds on the way through a sheet: each entry that was seen is in just one place, and what was kept together does not clash.
--
--   Sorted g : this, of what is known
use Prim.Native.Nat.{ℕ, ◌-◌, ◌≤◌, ◌<◌}
use mathlib.Core.Path.{◌≡◌, refl, sym, subst}
use mathlib.Core.Logic.{◌⊎◌, inl, inr, ⊎_elim}
use mathlib.Core.List.{List, [], ◌∷◌}
use mathlib.Core.Bool.{Bool, true, false, not, ◌||◌}
use native.Mathlib.Omega.{arith}
use lib.Dec.{T}
use Rattle.sets.specs.Lists.{any, members, over}
use Rattle.sets.proofs.TestLaws.{and_l, and_r, or_l, or_r, or_cases, not_t, t_not, T→true, T-ext, T?, any_make}
use Rattle.sets.proofs.MemberLaws.{members_agree}
use Rattle.clashes.specs.Matrix.{Valid}
use Rattle.lines.proofs.Basics.{cond_cases}
use Rattle.lists.specs.Read.{inside}
use Rattle.lists.proofs.Fold.{inside_is}
use Rattle.mends.specs.Mend.{none, with, Going, taken, clashes, lifting, keeping, member_of_lem, closed, group_of, start, gone, again}
use Rattle.mends.proofs.Groups.{has, with_cases, with_old, with_new, Free, AllFree, none_free, with_free, all_free_snoc, has_snoc, has_before, has_last, Apart, apart_snoc}

-- a member that is not dropped is an entry that was not seen
pub taken_is : (n : ℕ) (seen : ℕ → Bool) (u : ℕ) → taken n seen u ≡ true → (1 ≤ u) × (u - 1 < n) × ¬ T (seen (u - 1))
taken_is n seen u e =
    let t = subst T (sym e) tt in
    let i = inside_is n u (T→true (inside n u) (and_l (inside n u) (not (seen (u - 1))) t)) in
    (i.0, omega (arith, i.0, i.1), t_not (seen (u - 1)) (and_r (inside n u) (not (seen (u - 1))) t))

module _ (n : ℕ) (clash : ℕ → ℕ → Bool) where
  pub record Sorted (g : Going) : Type 0 where
    pub within : (x : ℕ) → T (g.seen x) → x < n
    -- seen ones were kept or lifted
    pub somewhere : (x : ℕ) → T (g.seen x) → T (has g.groups x) ⊎ (T (g.mates x) ⊎ T (g.lifted x))
    pub grouped : (x : ℕ) → T (has g.groups x) → T (g.seen x)
    pub mated : (x : ℕ) → T (g.mates x) → T (g.seen x)
    pub raised : (x : ℕ) → T (g.lifted x) → T (g.seen x)
    -- and not both
    pub ungrouped : (x : ℕ) → T (g.lifted x) → ¬ T (has g.groups x)
    pub unmated : (x : ℕ) → T (g.lifted x) → ¬ T (g.mates x)
    pub beside : (x : ℕ) → T (g.mates x) → ¬ T (has g.groups x)
    pub apart : Apart g.groups
    -- what was kept together does not clash
    pub free : AllFree n clash g.groups
    pub mates_free : Free n clash g.mates

  pub start_sorted : Sorted start
  start_sorted = record {
    within = λ x t. absurd t;
    somewhere = λ x t. absurd t;
    grouped = λ x t. absurd t;
    mated = λ x t. absurd t;
    raised = λ x t. absurd t;
    ungrouped = λ x t. absurd t;
    unmated = λ x t. absurd t;
    beside = λ x t. absurd t;
    apart = tt;
    free = tt;
    mates_free = none_free n clash;
  }

  module _ (g : Going) (s : Sorted g) (e : ℕ) (h : e < n) (new : ¬ T (g.seen e)) where
    -- a test that holds of seen ones only does not hold of e
    fresh : (p : ℕ → Bool) → ((x : ℕ) → T (p x) → T (g.seen x)) → (x : ℕ) → x ≡ e → ¬ T (p x)
    fresh p k x z t = new (subst (λ (y : ℕ). T (g.seen y)) z (k x t))

    more : (x : ℕ) → T (with g.seen e x) → x < n
    more x t = ⊎_elim (s.within x) (λ z. omega arith) (with_cases g.seen e x t)

    lifting_sorted : Sorted (lifting g e)
    lifting_sorted = record {
      within = more;
      somewhere =
          λ x t.
          ⊎_elim
          (λ a. ⊎_elim inl (λ b. inr (⊎_elim inl (λ c. inr (with_old g.lifted e x c)) b)) (s.somewhere x a))
          (λ z. inr (inr (subst (λ (y : ℕ). T (with g.lifted e y)) (sym z) (with_new g.lifted e)))) (with_cases g.seen e x t);
      grouped = λ x t. with_old g.seen e x (s.grouped x t);
      mated = λ x t. with_old g.seen e x (s.mated x t);
      raised =
          λ x t. ⊎_elim (λ a. with_old g.seen e x (s.raised x a)) (λ z. subst (λ (y : ℕ). T (with g.seen e y)) (sym z) (with_new g.seen e)) (with_cases g.lifted e x t);
      ungrouped = λ x t. ⊎_elim (s.ungrouped x) (fresh (has g.groups) s.grouped x) (with_cases g.lifted e x t);
      unmated = λ x t. ⊎_elim (s.unmated x) (fresh g.mates s.mated x) (with_cases g.lifted e x t);
      beside = s.beside;
      apart = s.apart;
      free = s.free;
      mates_free = s.mates_free;
    }

    keeping_sorted : Valid n clash → clashes n clash g.mates e ≡ false → Sorted (keeping g e)
    keeping_sorted v c = record {
      within = more;
      somewhere =
          λ x t.
          ⊎_elim
          (λ a. ⊎_elim inl (λ b. inr (⊎_elim (λ d. inl (with_old g.mates e x d)) inr b)) (s.somewhere x a))
          (λ z. inr (inl (subst (λ (y : ℕ). T (with g.mates e y)) (sym z) (with_new g.mates e)))) (with_cases g.seen e x t);
      grouped = λ x t. with_old g.seen e x (s.grouped x t);
      mated =
          λ x t. ⊎_elim (λ a. with_old g.seen e x (s.mated x a)) (λ z. subst (λ (y : ℕ). T (with g.seen e y)) (sym z) (with_new g.seen e)) (with_cases g.mates e x t);
      raised = λ x t. with_old g.seen e x (s.raised x t);
      ungrouped = s.ungrouped;
      unmated = λ x t u. ⊎_elim (s.unmated x t) (λ z. fresh g.lifted s.raised x z t) (with_cases g.mates e x u);
      beside = λ x t. ⊎_elim (s.beside x) (fresh (has g.groups) s.grouped x) (with_cases g.mates e x t);
      apart = s.apart;
      free = s.free;
      mates_free = with_free n clash v g.mates e h c s.mates_free;
    }

  closed_sorted : (g : Going) → Sorted g → Sorted (closed n g)
  closed_sorted g s = record {
    within = s.within;
    somewhere =
        λ x t.
        ⊎_elim (λ a. inl (has_before g.groups g.mates (any n g.mates) x a))
        (λ b. ⊎_elim (λ m. inl (has_last g.groups g.mates (any n g.mates) x (T→true _ (any_make n g.mates x (s.within x t) m)) m)) (λ l. inr (inr l)) b)
        (s.somewhere x t);
    grouped = λ x t. ⊎_elim (s.grouped x) (s.mated x) (has_snoc g.groups g.mates (any n g.mates) x t);
    mated = λ x t. absurd t;
    raised = s.raised;
    ungrouped = λ x t u. ⊎_elim (s.ungrouped x t) (s.unmated x t) (has_snoc g.groups g.mates (any n g.mates) x u);
    unmated = λ x t z. z;
    beside = λ x t. absurd t;
    apart = apart_snoc g.groups g.mates (any n g.mates) s.apart s.beside;
    free = all_free_snoc n clash g.groups g.mates (any n g.mates) s.free s.mates_free;
    mates_free = none_free n clash;
  }

  module _ (v : Valid n clash) where
    member_sorted : (g : Going) (u : ℕ) → Sorted g → Sorted (member_of_lem n clash g u)
    member_sorted g u s =
        cond_cases Sorted (taken n g.seen u) _ _
        (λ a. let t = taken_is n g.seen u a in
        cond_cases Sorted (clashes n clash g.mates (u - 1)) _ _
        (λ _. lifting_sorted g s (u - 1) t.1 t.2)
        (λ c. keeping_sorted g s (u - 1) t.1 t.2 v c))
        (λ _. s)

    members_sorted : (us : List ℕ) (g : Going) → Sorted g → Sorted (over (member_of_lem n clash) g us)
    members_sorted [] g s = s
    members_sorted (u ∷ us) g s = members_sorted us (member_of_lem n clash g u) (member_sorted g u s)

    groups_sorted : (gs : List (List ℕ)) (g : Going) → Sorted g → Sorted (over (group_of n clash) g gs)
    groups_sorted [] g s = s
    groups_sorted (us ∷ gs) g s = groups_sorted gs (group_of n clash g us) (closed_sorted (over (member_of_lem n clash) g us) (members_sorted us g s))

    pub gone_sorted : (gs : List (List ℕ)) → Sorted (gone n clash gs)
    gone_sorted gs = groups_sorted gs start start_sorted

    -- ---- those to be put again

    groups_unmated : (gs : List (List ℕ)) (g : Going) → g.mates ≡ none → (over (group_of n clash) g gs).mates ≡ none
    groups_unmated [] g e = e
    groups_unmated (us ∷ gs) g e = groups_unmated gs (group_of n clash g us) refl

    -- lifted and absent entries are just those that no group kept
    pub again_homeless : (gs : List (List ℕ)) → again n (gone n clash gs) ≡ members (λ e. not (has (gone n clash gs).groups e)) n
    again_homeless gs =
        let g = gone n clash gs in
        let s = gone_sorted gs in
        members_agree n _ _
        (λ e h. T-ext _ _
        (λ t. not_t (has g.groups e) (λ b. ⊎_elim (λ a. s.ungrouped e a b) (λ a. t_not (g.seen e) a (s.grouped e b)) (or_cases (g.lifted e) (not (g.seen e)) t)))
        (λ t. go e (t_not (has g.groups e) t) (T? (g.seen e))))
      where
        go : (e : ℕ) → ¬ T (has (gone n clash gs).groups e) → Dec (T ((gone n clash gs).seen e)) → T ((gone n clash gs).lifted e || not ((gone n clash gs).seen e))
        go e b (no a) = or_r ((gone n clash gs).lifted e) (not ((gone n clash gs).seen e)) (not_t ((gone n clash gs).seen e) a)
        go e b (yes a) =
            ⊎_elim (λ c. absurd (b c))
            (λ c. ⊎_elim (λ d. absurd (subst (λ (p : ℕ → Bool). T (p e)) (groups_unmated gs start refl) d)) (λ d. or_l ((gone n clash gs).lifted e) (not ((gone n clash gs).seen e)) d) c)
            ((gone_sorted gs).somewhere e a)
