-- One member more, and a group at its end, in the words that hold them.
use Prim.Native.Nat.{ℕ, suc, ◌+◌, ◌-◌, ◌≤◌, ◌<◌}
use mathlib.Core.Path.{◌≡◌, refl, sym, ap, subst, fun_ext, ◌∙◌}
use mathlib.Core.Logic.{◌≢◌}
use mathlib.Core.List.{List, [], ◌∷◌, ◌++◌, append-nil}
use mathlib.Core.Bool.{Bool, true, false, cond, not, ◌&&◌, ◌||◌}
use native.Mathlib.Omega.{arith}
use borrow.Author.Tests.{eqb-true, ne_eqb, eq-eqb}
use lib.Dec.{T, eqb}
use lib.ListN.{length, get_or, length-append}
use Rattle.sets.specs.Lists.{bit, put, any}
use Rattle.sets.specs.Set.{has, size, IsWith, IsMeet}
use Rattle.sets.proofs.TestLaws.{and_r, or_r, or_false, bit_few, bit_one, bit_zero, eqb_of, T→true, T→false, any_make, any_get}
use Rattle.sets.proofs.MemberLaws.{count_but, count_few}
use Rattle.sets.proofs.SetLaws.{has_none, some_member}
use Rattle.clashes.specs.Matrix.{matrix}
use Rattle.lines.specs.Numeral.{numeral, one_line}
use Rattle.lines.proofs.Writing.{one_length}
use Rattle.lines.proofs.Back.{numeral_length}
use Rattle.sheets.proofs.Sets.{empty_is, empty_within, with_within}
use Rattle.mends.specs.Mend.{Going, taken, clashes, lifting, keeping, member_of_lem, closed}
use Rattle.mends.specs.Report.{dropped_word, dropped_text}
use Rattle.mends.proofs.Sorted.{taken_is}
use Rattle.mending.specs.Rows.{RowsAt}
use Rattle.mending.specs.Groups.{sets_of}
use Rattle.mending.specs.Held.{going_of, full, FitsAt, MemberedAt, dropped_more}
use Rattle.mending.specs.declared.Gone.{Gone}
use Rattle.mending.specs.declared.groups.Groups.{Groups}

-- ---- sets

-- one more that was not there
pub size_with : (n s i r : ℕ) → i < n → IsWith s i r → ¬ T (has s i) → size n r ≡ suc (size n s)
size_with n s i r h U new =
    omega (
      arith,
      count_but n (has s) (has r) i h (λ j d. U j ∙ ap (λ (b : Bool). has s j || b) (ne_eqb i j (λ e. d (sym e))) ∙ or_false (has s j)),
      bit_zero (has s i) new,
      bit_one (has r i) (subst T (sym (U i)) (or_r (has s i) (eqb i i) (eqb_of i i refl))),
    )

-- one more, whether it was there or not
pub size_with_most : (n s i r : ℕ) → i < n → IsWith s i r → size n r ≤ size n s + 1
size_with_most n s i r h U =
    omega (
      arith,
      count_but n (has s) (has r) i h (λ j d. U j ∙ ap (λ (b : Bool). has s j || b) (ne_eqb i j (λ e. d (sym e))) ∙ or_false (has s j)),
      bit_few (has r i),
    )

module _ (cap n : ℕ) (rows : List ℕ) (k : RowsAt cap n rows) (s e r : ℕ) (m : IsMeet s (get_or rows e 0) r) where
  -- an entry clashes with one of a set just where its row and the set have something in common
  pub clash_some : r ≢ 0 → clashes n (matrix rows) (has s) e ≡ true
  clash_some d =
      let (j, h) = some_member r d in
      let b = subst T (m j) h in
      T→true _ (any_make n (λ j. has s j && matrix rows e j) j (k.straight e j (and_r (has s j) (matrix rows e j) b)) b)

  pub clash_none : r ≡ 0 → clashes n (matrix rows) (has s) e ≡ false
  clash_none z = T→false _ (λ a. let (j, _, h) = any_get n (λ j. has s j && matrix rows e j) a in subst T (sym (m j) ∙ ap (λ (x : ℕ). has x j) z ∙ has_none j) h)

  -- so it is seen by the row whether a group admits an entry
  pub admits_is : eqb r 0 ≡ not (clashes n (matrix rows) (has s) e)
  admits_is = go (eqb r 0) refl
    where
      go : (b : Bool) → eqb r 0 ≡ b → b ≡ not (clashes n (matrix rows) (has s) e)
      go true z = ap not (sym (clash_none (eqb-true r 0 z)))
      go false z = ap not (sym (clash_some (λ d. let q : ◌≡◌ {A = Bool} true false = sym (eq-eqb r 0 d) ∙ z in absurd (subst T q tt))))

pub not_false : (b : Bool) → not b ≡ false → b ≡ true
not_false true e = refl
not_false false e = absurd (subst T e tt)

pub not_true : (b : Bool) → not b ≡ true → b ≡ false
not_true true e = absurd (subst T (sym e) tt)
not_true false e = refl

-- ---- one member

module _ (cap n : ℕ) (few : n ≤ cap) (g : Gone) (f : FitsAt cap n g) (e : ℕ) (h : e < n) (new : ¬ T (has g.seen e)) (s' : ℕ) (S : IsWith g.seen e s') where
  module _ (l' : ℕ) (L : IsWith g.lifted e l') where
    abbrev pub lifts : Gone
    lifts = record { seen = s'; lifted = l'; mates = g.mates; groups = g.groups; bytes = g.bytes }

    pub lifts_is : going_of lifts ≡ lifting (going_of g) e
    lifts_is = λ i. record { seen = fun_ext S i; lifted = fun_ext L i; mates = has g.mates; groups = sets_of g.groups }

    pub lifts_fits : FitsAt cap n lifts
    lifts_fits = record {
      room = omega (arith, f.room, size_with cap g.seen e s' (omega arith) S new, size_with_most cap g.lifted e l' (omega arith) L);
      mates = f.mates;
      lifted = with_within n g.lifted e l' h L f.lifted;
    }

  module _ (m' : ℕ) (M : IsWith g.mates e m') where
    abbrev pub keeps : Gone
    keeps = record { seen = s'; lifted = g.lifted; mates = m'; groups = g.groups; bytes = g.bytes }

    pub keeps_is : going_of keeps ≡ keeping (going_of g) e
    keeps_is = λ i. record { seen = fun_ext S i; lifted = has g.lifted; mates = fun_ext M i; groups = sets_of g.groups }

    pub keeps_fits : FitsAt cap n keeps
    keeps_fits = record {
      room = omega (arith, f.room, size_with cap g.seen e s' (omega arith) S new, bit_few (not (eqb m' 0)));
      mates = with_within n g.mates e m' h M f.mates;
      lifted = f.lifted;
    }

module _ (n : ℕ) (clash : ℕ → ℕ → Bool) (g : Going) (u : ℕ) where
  pub member_lifts : taken n g.seen u ≡ true → clashes n clash g.mates (u - 1) ≡ true → member_of_lem n clash g u ≡ lifting g (u - 1)
  member_lifts a b =
      ap (λ (x : Bool). cond x (cond (clashes n clash g.mates (u - 1)) (lifting g (u - 1)) (keeping g (u - 1))) g) a
      ∙ ap (λ (x : Bool). cond x (lifting g (u - 1)) (keeping g (u - 1))) b

  pub member_keeps : taken n g.seen u ≡ true → clashes n clash g.mates (u - 1) ≡ false → member_of_lem n clash g u ≡ keeping g (u - 1)
  member_keeps a b =
      ap (λ (x : Bool). cond x (cond (clashes n clash g.mates (u - 1)) (lifting g (u - 1)) (keeping g (u - 1))) g) a
      ∙ ap (λ (x : Bool). cond x (lifting g (u - 1)) (keeping g (u - 1))) b

  pub member_drops : taken n g.seen u ≡ false → member_of_lem n clash g u ≡ g
  member_drops a = ap (λ (x : Bool). cond x (cond (clashes n clash g.mates (u - 1)) (lifting g (u - 1)) (keeping g (u - 1))) g) a

-- ---- the lines that are dropped

pub drops_length : (n : ℕ) (seen : ℕ → Bool) (line u : ℕ) → taken n seen u ≡ false → length (dropped_text (dropped_more n seen line u)) ≡ length (numeral line) + 9
drops_length n seen line u e =
    ap (λ (b : Bool). length (dropped_text (put (not b) line []))) e
    ∙ omega (arith, length-append (one_line dropped_word line) [], one_length dropped_word line)

pub drops_none : (n : ℕ) (seen : ℕ → Bool) (line u : ℕ) → taken n seen u ≡ true → length (dropped_text (dropped_more n seen line u)) ≡ 0
drops_none n seen line u e = ap (λ (b : Bool). length (dropped_text (put (not b) line []))) e

pub drops_most : (n : ℕ) (seen : ℕ → Bool) (line u : ℕ) → length (dropped_text (dropped_more n seen line u)) ≤ 16
drops_most n seen line u = go (taken n seen u) refl
  where
    go : (b : Bool) → taken n seen u ≡ b → length (dropped_text (dropped_more n seen line u)) ≤ 16
    go true e = omega (arith, drops_none n seen line u e)
    go false e = omega (arith, drops_length n seen line u e, (numeral_length line).1)

-- ---- what became of a member

module _ (cap n : ℕ) (rows : List ℕ) (k : RowsAt cap n rows) (g : Gone) (f : FitsAt cap n g) (line u : ℕ) where
  module _ (t : taken n (has g.seen) u ≡ true) (s' : ℕ) (S : IsWith g.seen (u - 1) s') where
    pub membered_lifts : clashes n (matrix rows) (has g.mates) (u - 1) ≡ true → (l' : ℕ) (L : IsWith g.lifted (u - 1) l')
        → MemberedAt cap n rows g line u (record { seen = s'; lifted = l'; mates = g.mates; groups = g.groups; bytes = g.bytes })
    membered_lifts d l' L =
        let i = taken_is n (has g.seen) u t in (
          lifts_is cap n k.few g f (u - 1) i.1 i.2 s' S l' L
              ∙ sym (member_lifts n (matrix rows) (going_of g) u t d),
          lifts_fits cap n k.few g f (u - 1) i.1 i.2 s' S l' L,
          omega (arith, drops_none n (has g.seen) line u t),
        )

    pub membered_keeps : clashes n (matrix rows) (has g.mates) (u - 1) ≡ false → (m' : ℕ) (N : IsWith g.mates (u - 1) m')
        → MemberedAt cap n rows g line u (record { seen = s'; lifted = g.lifted; mates = m'; groups = g.groups; bytes = g.bytes })
    membered_keeps z m' N =
        let i = taken_is n (has g.seen) u t in (
          keeps_is cap n k.few g f (u - 1) i.1 i.2 s' S m' N
              ∙ sym (member_keeps n (matrix rows) (going_of g) u t z),
          keeps_fits cap n k.few g f (u - 1) i.1 i.2 s' S m' N,
          omega (arith, drops_none n (has g.seen) line u t),
        )

  pub membered_drops : taken n (has g.seen) u ≡ false → (b : ℕ) → b ≡ g.bytes + length (numeral line) + 9
      → MemberedAt cap n rows g line u (record { seen = g.seen; lifted = g.lifted; mates = g.mates; groups = g.groups; bytes = b })
  membered_drops t b e = (
    sym (member_drops n (matrix rows) (going_of g) u t),
    record { room = f.room; mates = f.mates; lifted = f.lifted },
    omega (arith, drops_length n (has g.seen) line u t),
  )

-- ---- a group at its end

none_any : (n s : ℕ) → s ≡ 0 → any n (has s) ≡ false
none_any n s z = T→false _ (λ a. let (j, _, h) = any_get n (has s) a in subst T (ap (λ (x : ℕ). has x j) z ∙ has_none j) h)

module _ (cap n : ℕ) (g : Gone) (f : FitsAt cap n g) where
  -- nothing was kept of it
  pub vanishes : g.mates ≡ 0 → going_of g ≡ closed n (going_of g)
  vanishes z =
      λ i. record {
        seen = has g.seen;
        lifted = has g.lifted;
        mates = (ap has z ∙ empty_is) i;
        groups = (sym (append-nil (sets_of g.groups)) ∙ ap (λ (b : Bool). sets_of g.groups ++ put b (has g.mates) []) (sym (none_any n g.mates z))) i;
      }

  module _ (d : g.mates ≢ 0) where
    some_any : any n (has g.mates) ≡ true
    some_any = let (j, h) = some_member g.mates d in T→true _ (any_make n (has g.mates) j (f.mates j h) h)

    one_full : full g.mates ≡ 1
    one_full = ap (λ (b : Bool). bit (not b)) (ne_eqb g.mates 0 d)

    pub stays_room : g.groups.many < cap
    stays_room = omega (arith, f.room, one_full, count_few (has g.seen) cap)

    module _ (k : Groups) (S : sets_of k ≡ sets_of g.groups ++ has g.mates ∷ []) (M : k.many ≡ g.groups.many + 1) where
      abbrev pub stays : Gone
      stays = record { seen = g.seen; lifted = g.lifted; mates = 0; groups = k; bytes = g.bytes }

      pub stays_is : going_of stays ≡ closed n (going_of g)
      stays_is =
          λ i. record {
            seen = has g.seen;
            lifted = has g.lifted;
            mates = empty_is i;
            groups = (S ∙ ap (λ (b : Bool). sets_of g.groups ++ put b (has g.mates) []) (sym some_any)) i;
          }

      pub stays_fits : FitsAt cap n stays
      stays_fits = record { room = omega (arith, f.room, one_full, M); mates = empty_within n; lifted = f.lifted }
