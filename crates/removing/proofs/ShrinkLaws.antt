-- Laws of the loop that shrinks: who has gone, and then who is still to go, are all who go. Assumes nothing.
use mathlib.Core.Path.{◌≡◌, refl, sym, ap, ap₂, ◌∙◌, subst}
use mathlib.Core.Bool.{Bool, true, false, not, ◌||◌, cond}
use mathlib.Core.List.{List, [], ◌∷◌, ◌++◌, append_assoc, append-nil}
use mathlib.Core.Option.{none, some}
use Prim.Native.Nat.{ℕ, suc, ◌+◌, ◌≤◌, ◌<◌}
use native.Mathlib.Numerals.{add-one}
use native.Mathlib.Omega.{arith}
use lib.Dec.{T, eqb, ltb→lt}
use lib.ListN.{length, get_or, set, length-set}
use lib.Seq.{get_or-set_same, get_or-set_other}
use borrow.Author.Tests.{lt-ltb}
use Rattle.sets.specs.Lists.{some?}
use Rattle.sets.specs.Set.{has, size, IsWithout, IsBelow}
use Rattle.sets.proofs.TestLaws.{and_l, or_turn, or_assoc}
use Rattle.sets.proofs.ListLaws.{table_suc}
use Rattle.sets.proofs.MemberLaws.{count_agree}
use Rattle.sets.proofs.SetLaws.{size_without, without_is}
use Rattle.clashes.specs.Matrix.{matrix}
use Rattle.shrink.specs.Rules.{Removal, covered, few, entry, without, next, removals, left, everyone, gone}
use Rattle.shrink.specs.Shrunk.{is_few}
use Rattle.shrink.specs.Steps.{Allowed}
use Rattle.shrink.proofs.RuleLaws.{left_more, Next, next_is, next_allowed, allowed_entry, removals_next, removals_none}
use Rattle.shrink.proofs.BackLaws.{every_below}
use Rattle.shrink.proofs.Alike.{table_agree}
use Rattle.removing.specs.Words.{Entries, removal, removal_of, nobody, removed, Shrank}
use Rattle.removing.specs.declared.Goes.{Goes}

-- ---- one removal more

pub removal_entry : (v u : ℕ) → entry (removal v u) ≡ v
removal_entry v u = go (eqb v u)
  where
    go : (b : Bool) → entry (cond b (few v) (covered v u)) ≡ v
    go true = refl
    go false = refl

removal_is_few : (v u : ℕ) → is_few (removal v u) ≡ eqb v u
removal_is_few v u = go (eqb v u)
  where
    go : (b : Bool) → is_few (cond b (few v) (covered v u)) ≡ b
    go true = refl
    go false = refl

some_more : (rs : List Removal) (r : Removal) → some? is_few (rs ++ r ∷ []) ≡ (some? is_few rs || is_few r)
some_more [] r = or_turn (is_few r) false
some_more (x ∷ rs) r = ap (λ (b : Bool). is_few x || b) (some_more rs r) ∙ or_assoc (is_few x) (some? is_few rs) (is_few r)

removed_next : (went : List Goes) (m : ℕ) (g : Goes) → m < length went → removed (set went m g) (m + 1) ≡ removed went m ++ removal_of g ∷ []
removed_next went m g b =
    ap (removed (set went m g)) (add-one m)
    ∙ table_suc (λ i. removal_of (get_or (set went m g) i nobody)) m
    ∙ ap₂ (λ (l : List Removal) (r : Removal). l ++ r ∷ [])
    (table_agree m (λ i. removal_of (get_or (set went m g) i nobody)) (λ i. removal_of (get_or went i nobody))
    (λ i c. ap removal_of (get_or-set_other went m i g nobody (λ e. let z : ⊥ = omega arith in z))))
    (ap removal_of (get_or-set_same went m g nobody b))

pub without_entries : (n present v present' : ℕ) → Entries n present → IsWithout present v present' → Entries n present'
without_entries n present v present' e w x t = e x (and_l (has present x) (not (eqb v x)) (subst T (w x) t))

-- ---- the loop

-- m have gone, as the array notes; used says whether one went by the second rule
pub record Going (cap L : ℕ) (rows : List ℕ) (went : List Goes) (used : Bool) (m present : ℕ) : Type 0 where
  pub long : length went ≡ cap
  pub entries : Entries (length rows) present
  pub still : removed went m ++ removals L (length rows) (matrix rows) (size (length rows) present) (has present)
      ≡ gone L (length rows) (matrix rows)
  pub stays : ◌≡◌ {A = ℕ → Bool} (left (everyone (length rows)) (removed went m)) (has present)
  pub second : used ≡ some? is_few (removed went m)
  pub all : m + size (length rows) present ≡ length rows

module _ (cap L : ℕ) (rows : List ℕ) (most : length rows ≤ cap) where
  abbrev n : ℕ
  n = length rows

  -- everyone is present
  pub going_start : (went : List Goes) (present : ℕ) → length went ≡ cap → IsBelow n present → Going cap L rows went false 0 present
  going_start went present a is = record {
    long = a;
    entries = λ x h. ltb→lt x n (subst T (is x) h);
    still = ap₂ (λ (m : ℕ) (p : ℕ → Bool). removals L n (matrix rows) m p) full (λ i x. is x i);
    stays = λ i x. sym (is x) i;
    second = refl;
    all = omega (arith, full);
  }
    where
      full : size n present ≡ n
      full = count_agree n (has present) (λ j. true) (λ j c. is j ∙ lt-ltb j n c) ∙ every_below n

  module _ (went : List Goes) (used : Bool) (m present : ℕ) (h : Going cap L rows went used m present) where
    module _ (g : Goes) (turn : some (removal_of g) ≡ next n (matrix rows) (has present) L) where
      abbrev r : Removal
      r = removal_of g

      allowed : Allowed L n (matrix rows) (has present) r
      allowed =
          next_allowed L n (matrix rows) (has present) r (subst (Next L n (matrix rows) (has present)) (sym turn)
          (next_is L n (matrix rows) (has present)))

      who_is : (entry r < n) × T (has present (entry r))
      who_is = allowed_entry L n (matrix rows) (has present) r allowed

      pub who_below : g.who < n
      who_below = subst (λ (x : ℕ). x < n) (removal_entry g.who g.other) who_is.0

      who_here : T (has present g.who)
      who_here = subst (λ (x : ℕ). T (has present x)) (removal_entry g.who g.other) who_is.1

      -- there is a place for it
      pub room : m < n
      room = omega (arith, h.all, size_without n present g.who _ who_below who_here (without_is present g.who))

      pub going_next : (present' : ℕ) → IsWithout present g.who present'
          → Going cap L rows (set went m g) (used || eqb g.who g.other) (m + 1) present'
      going_next present' w = record {
        long = length-set went m g ∙ h.long;
        entries = without_entries n present g.who present' h.entries w;
        still =
            ap (λ (l : List Removal). l ++ removals L n (matrix rows) (size n present') (has present')) more
            ∙ append_assoc (removed went m) (r ∷ []) (removals L n (matrix rows) (size n present') (has present'))
            ∙ ap (λ (l : List Removal). removed went m ++ l) (sym onward)
            ∙ h.still;
        stays =
            ap (left (everyone n)) more ∙ left_more (everyone n) (removed went m) r
            ∙ ap₂ without (removal_entry g.who g.other) h.stays ∙ sym gone_one;
        second =
            ap₂ (λ (a b : Bool). a || b) h.second (sym (removal_is_few g.who g.other))
            ∙ sym (some_more (removed went m) r) ∙ ap (some? is_few) (sym more);
        all = omega (arith, h.all, fewer);
      }
        where
          more : removed (set went m g) (m + 1) ≡ removed went m ++ r ∷ []
          more = removed_next went m g (omega (arith, h.long, room))

          fewer : suc (size n present') ≡ size n present
          fewer = size_without n present g.who present' who_below who_here w

          gone_one : ◌≡◌ {A = ℕ → Bool} (has present') (without g.who (has present))
          gone_one = λ i x. w x i

          onward : removals L n (matrix rows) (size n present) (has present) ≡ r ∷ removals L n (matrix rows) (size n present') (has present')
          onward =
              ap (λ (k : ℕ). removals L n (matrix rows) k (has present)) (sym fewer)
              ∙ removals_next L n (matrix rows) (size n present') (has present) r (sym turn)
              ∙ ap (λ (p : ℕ → Bool). r ∷ removals L n (matrix rows) (size n present') p)
              (ap (λ (v : ℕ). without v (has present)) (removal_entry g.who g.other) ∙ sym gone_one)

      pub going_less : (present' : ℕ) → IsWithout present g.who present' → size n present' < size n present
      going_less present' w = omega (arith, size_without n present g.who present' who_below who_here w)

    -- neither rule applies
    pub going_end : none ≡ next n (matrix rows) (has present) L → Shrank L rows (record { present = present; gone = m; went = went; few = used })
    going_end turn = record {
      went = all;
      stays = λ x. sym (λ i. h.stays i x) ∙ ap (λ (rs : List Removal). left (everyone n) rs x) all;
      second = h.second ∙ ap (some? is_few) all;
      all = h.all;
    }
      where
        all : removed went m ≡ gone L n (matrix rows)
        all =
            sym (append-nil (removed went m))
            ∙ ap (λ (l : List Removal). removed went m ++ l) (sym (removals_none L n (matrix rows) (size n present) (has present) (sym turn)))
            ∙ h.still
