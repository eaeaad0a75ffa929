-- The report, line by line: entries that were put again, and lines that are dropped.
use Prim.Native.Nat.{ℕ, ◌+◌, ◌-◌, ◌^◌, ◌≤◌, ◌<◌}
use mathlib.Core.Path.{◌≡◌, refl, sym, ap, subst, fun_ext, ◌∙◌}
use mathlib.Core.List.{List, [], ◌++◌, append-nil}
use mathlib.Core.Bool.{Bool, true, false, cond, not}
use native.Mathlib.Omega.{arith}
use lib.Bits.{bit_and}
use lib.ListN.{length, take, drop, length-append}
use Rattle.std.specs.Prelude.{Option, Some, Ok}
use Rattle.sets.specs.Lists.{put, members}
use Rattle.sets.specs.Set.{has, IsWith, IsWithout, IsLowest}
use Rattle.sets.proofs.SetLaws.{without_is}
use Rattle.clashes.specs.Divisions.{at}
use Rattle.lines.specs.Text.{lines_of, line_end_lem}
use Rattle.lines.specs.Numeral.{numeral, one_line, Put}
use Rattle.lines.proofs.Writing.{one_length, over_none, Left, left_room, left_put, left_skip}
use Rattle.mends.specs.declared.Counts.{Counts}
use Rattle.mends.specs.declared.Step.TheVariants.{Groups, Size, Member}
use Rattle.mends.specs.Typed.{step_of}
use Rattle.mends.specs.Mend.{with, taken, sees}
use Rattle.mends.specs.Report.{put_word, group_word, dropped_word, dropped_text, entry_line, put_text}
use Rattle.mending.specs.Held.{dropped_more, dropped_at}
use Rattle.mending.proofs.Placing.{rest_members}
use Rattle.mending.proofs.Turns.{turn_drops}

-- ---- entries that were put again

pub entry_length : (e g : ℕ) → length (entry_line e g) ≡ length (numeral (e + 1)) + length (numeral (g + 1)) + 12
entry_length e g =
    omega (
      arith,
      length-append put_word (numeral (e + 1) ++ one_line group_word (g + 1)),
      length-append (numeral (e + 1)) (one_line group_word (g + 1)),
      one_length group_word (g + 1),
    )

-- the lowest of them, and the rest
pub puts_more : (c : List ℕ) (left e rest g : ℕ) → IsLowest 64 left e → IsWithout left e rest → g ≡ at c e
    → put_text c (members (has left) 64) ≡ entry_line e g ++ put_text c (members (has rest) 64)
puts_more c left e rest g W R z =
    ap (put_text c) (rest_members 0 left e W rest R) ∙ ap (λ (x : ℕ). entry_line e x ++ put_text c (members (has rest) 64)) (sym z)

-- there is room for it
pub puts_room : (c : List ℕ) (left e g : ℕ) → IsLowest 64 left e → g ≡ at c e → (o₀ : List ℕ) (a₀ : ℕ) (w o : List ℕ) (a : ℕ)
    → Left o₀ a₀ w o a (put_text c (members (has left) 64)) → a + length (entry_line e g) ≤ length o
puts_room c left e g W z o₀ a₀ w o a L =
    let rest = left - bit_and left (2 ^ e) in
    left_room o₀ a₀ w o a (put_text c (members (has left) 64)) L (entry_line e g) (put_text c (members (has rest) 64)) (puts_more c left e rest g W (without_is left e) z)

-- ---- lines that are dropped

-- a line that may be dropped, and the rest
text_more : (b : Bool) (k : ℕ) (ls : List ℕ) → dropped_text (put b k ls) ≡ dropped_text (put b k []) ++ dropped_text ls
text_more true k ls = ap (λ (x : List ℕ). x ++ dropped_text ls) (sym (append-nil (one_line dropped_word k)))
text_more false k ls = refl

module _ (n : ℕ) (seen : ℕ → Bool) (k u : ℕ) (o : List ℕ) (a : ℕ) (fit : a + length (dropped_text (dropped_more n seen k u)) ≤ length o) where
  -- nothing is put for a member that is not dropped
  pub none_put : taken n seen u ≡ true → Put o a (dropped_text (dropped_more n seen k u)) o a
  none_put t =
      subst (λ (b : Bool). Put o a (dropped_text (put (not b) k [])) o a) (sym t) (omega arith, sym (over_none o a (omega arith)))

  line_text : taken n seen u ≡ false → dropped_text (dropped_more n seen k u) ≡ one_line dropped_word k
  line_text t = ap (λ (b : Bool). dropped_text (put (not b) k [])) t ∙ append-nil (one_line dropped_word k)

  pub line_room : taken n seen u ≡ false → a + length (one_line dropped_word k) ≤ length o
  line_room t = omega (arith, ap length (line_text t))

  pub line_put : taken n seen u ≡ false → (o' : List ℕ) (a' : ℕ) → Put o a (one_line dropped_word k) o' a' → Put o a (dropped_text (dropped_more n seen k u)) o' a'
  line_put t o' a' p = subst (λ (x : List ℕ). Put o a x o' a') (sym (line_text t)) p

module _ (n : ℕ) (seen u : ℕ) where
  pub sees_with : taken n (has seen) u ≡ true → (r : ℕ) → IsWith seen (u - 1) r → has r ≡ sees n (has seen) u
  sees_with t r U = fun_ext U ∙ ap (λ (b : Bool). cond b (with (has seen) (u - 1)) (has seen)) (sym t)

  pub sees_same : taken n (has seen) u ≡ false → has seen ≡ sees n (has seen) u
  sees_same t = ap (λ (b : Bool). cond b (with (has seen) (u - 1)) (has seen)) (sym t)

-- one turn of the loop that puts them
module _ (n : ℕ) (s : List ℕ) (a e k : ℕ) (c : Option Counts) (seen : ℕ) (q : e ≡ line_end_lem s a) (l : e < length s) (o₀ w o : List ℕ) (p : ℕ)
    (L : Left o₀ 0 w o p (dropped_text (dropped_at n (lines_of (drop a s)) k c (has seen)))) where
  pub drops_groups : (d : Counts) → step_of c (take (e - a) (drop a s)) ≡ Ok (Groups d) → (o' : List ℕ) (p' : ℕ) (c' : Option Counts) (seen' : ℕ) → o' ≡ o → p' ≡ p → c' ≡ Some d → seen' ≡ seen
      → Left o₀ 0 w o' p' (dropped_text (dropped_at n (lines_of (drop (e + 1) s)) (k + 1) c' (has seen')))
  drops_groups d x o' p' c' seen' eo ep ec es =
      rw (eo, ep, ec, es) (left_skip o₀ 0 w o p _ L _ (ap dropped_text (turn_drops s a k c e q l (Ok (Groups d)) x n (has seen))))

  pub drops_size : (d : Counts) → step_of c (take (e - a) (drop a s)) ≡ Ok (Size d) → (o' : List ℕ) (p' : ℕ) (c' : Option Counts) (seen' : ℕ) → o' ≡ o → p' ≡ p → c' ≡ Some d → seen' ≡ seen
      → Left o₀ 0 w o' p' (dropped_text (dropped_at n (lines_of (drop (e + 1) s)) (k + 1) c' (has seen')))
  drops_size d x o' p' c' seen' eo ep ec es =
      rw (eo, ep, ec, es) (left_skip o₀ 0 w o p _ L _ (ap dropped_text (turn_drops s a k c e q l (Ok (Size d)) x n (has seen))))

  module _ (d : Counts) (u : ℕ) (x : step_of c (take (e - a) (drop a s)) ≡ Ok (Member d u)) where
    next : dropped_text (dropped_at n (lines_of (drop a s)) k c (has seen))
        ≡ dropped_text (dropped_more n (has seen) k u) ++ dropped_text (dropped_at n (lines_of (drop (e + 1) s)) (k + 1) (Some d) (sees n (has seen) u))
    next =
        ap dropped_text (turn_drops s a k c e q l (Ok (Member d u)) x n (has seen))
        ∙ text_more (not (taken n (has seen) u)) k (dropped_at n (lines_of (drop (e + 1) s)) (k + 1) (Some d) (sees n (has seen) u))

    pub drops_room : p + length (dropped_text (dropped_more n (has seen) k u)) ≤ length o
    drops_room =
        left_room o₀ 0 w o p (dropped_text (dropped_at n (lines_of (drop a s)) k c (has seen))) L (dropped_text (dropped_more n (has seen) k u))
        (dropped_text (dropped_at n (lines_of (drop (e + 1) s)) (k + 1) (Some d) (sees n (has seen) u))) next

    pub drops_member : (o₁ : List ℕ) (p₁ : ℕ) → Put o p (dropped_text (dropped_more n (has seen) k u)) o₁ p₁ → (s₁ : ℕ) → has s₁ ≡ sees n (has seen) u
        → (o' : List ℕ) (p' : ℕ) (c' : Option Counts) (seen' : ℕ) → o' ≡ o₁ → p' ≡ p₁ → c' ≡ Some d → seen' ≡ s₁
        → Left o₀ 0 w o' p' (dropped_text (dropped_at n (lines_of (drop (e + 1) s)) (k + 1) c' (has seen')))
    drops_member o₁ p₁ P s₁ S o' p' c' seen' eo ep ec es =
        rw (eo, ep, ec, es)
        (subst (λ (y : ℕ → Bool). Left o₀ 0 w o₁ p₁ (dropped_text (dropped_at n (lines_of (drop (e + 1) s)) (k + 1) (Some d) y))) (sym S)
        (left_put o₀ 0 w o p _ L _ _ next o₁ p₁ P))
