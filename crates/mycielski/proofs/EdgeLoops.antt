-- Edges in words: those of a clique, and those between one vertex and a set, laid over the members of a set, lowest first. Assumes nothing.
use mathlib.Core.Path.{◌≡◌, refl, sym, ap, ap₂, ◌∙◌, subst}
use mathlib.Core.Logic.{◌≢◌}
use mathlib.Core.Bool.{Bool, true, false, not, ◌&&◌, ◌||◌}
use mathlib.Core.List.{List}
use Prim.Native.Nat.{ℕ, zero, ◌≤◌, ◌<◌}
use native.Mathlib.Decide.{ℕ_discrete, dec_lt}
use native.Mathlib.Omega.{arith}
use lib.Dec.{eqb}
use lib.ListN.{length, get_or, set, replicate, length-set, length-replicate, get_or-replicate, get_or-eq_default}
use lib.Seq.{get_or-set_same, get_or-set_other}
use borrow.Author.Tests.{eq-eqb, ne_eqb}
use Rattle.sets.specs.Set.{has, IsWith, IsWithout, IsJoin, IsLowest}
use Rattle.sets.proofs.TestLaws.{or_false, or_assoc, eqb_turn}
use Rattle.sets.proofs.SetLaws.{has_none}
use Rattle.cliques.specs.Growth.{Within}
use Rattle.mycielski.specs.Rounds.{Part, every_edge}
use Rattle.mycielski.specs.Words.{part_of, Ties}
use Rattle.mycielski.proofs.DoneLaws.{done, done_none, done_all, within_again, done_more}

-- two parts with the same vertices and edges are equal
pub part_ext : (p q : Part) → ((x : ℕ) → p.vert x ≡ q.vert x) → ((x y : ℕ) → p.edge x y ≡ q.edge x y) → p ≡ q
part_ext p q a b = λ i. record { vert = λ x. a x i; edge = λ x y. b x y i }

-- the element at x after a store at v
pub get_d_set : (l : List ℕ) (v a x : ℕ) → v < length l → (P : ℕ → Type 0) → (v ≡ x → P a) → (v ≢ x → P (get_or l x zero)) → P (get_or (set l v a) x zero)
get_d_set l v a x b P f g = go (ℕ_discrete v x)
  where
    go : Dec (v ≡ x) → P (get_or (set l v a) x zero)
    go (yes e) = subst P (sym (ap (λ (z : ℕ). get_or (set l v a) z zero) (sym e) ∙ get_or-set_same l v a zero b)) (f e)
    go (no d) = subst P (sym (get_or-set_other l v x a zero (λ e. d (sym e)))) (g d)

-- ---- the clique's edges

pub record Joining (cap c : ℕ) (near : List ℕ) (left : ℕ) : Type 0 where
  pub wide : length near ≡ cap
  pub within : Within left c
  pub is : (x y : ℕ) → has (get_or near x zero) y ≡ (done c left x && (has c y && not (eqb x y)))

pub joining_start : (cap c : ℕ) → Joining cap c (replicate cap 0) c
joining_start cap c = record {
  wide = length-replicate cap zero;
  within = λ x t. t;
  is = λ x y. ap (λ (s : ℕ). has s y) (zeros x (dec_lt x cap)) ∙ has_none y ∙ sym (ap (λ (b : Bool). b && (has c y && not (eqb x y))) (done_none c x));
}
  where
    zeros : (x : ℕ) → Dec (x < cap) → get_or (replicate cap 0) x zero ≡ 0
    zeros x (yes b) = get_or-replicate cap x 0 0 b
    zeros x (no b) = get_or-eq_default (replicate cap 0) 0 (let z : length (replicate cap zero) ≤ x = omega (arith, length-replicate cap zero) in z)

pub joining_again : {cap : ℕ} (c : ℕ) (near : List ℕ) (left v out left' : ℕ) → Joining cap c near left → IsLowest cap left v → IsWithout c v out → IsWithout left v left'
    → Joining cap c (set near v out) left'
joining_again c near left v out left' i w q o = record {
  wide = length-set near v out ∙ i.wide;
  within = within_again c left v left' i.within w o;
  is = λ x y.
      get_d_set near v out x (omega (arith, i.wide, w.below)) (λ s. has s y ≡ (done c left' x && (has c y && not (eqb x y))))
      (λ e. q y ∙ ap (λ (z : ℕ). has c y && not (eqb z y)) e
      ∙ sym (ap (λ (b : Bool). b && (has c y && not (eqb x y)))
      (done_more c left v left' i.within w o x ∙ ap (λ (b : Bool). done c left x || b) (eq-eqb v x e) ∙ or_true (done c left x))))
      (λ d. i.is x y
      ∙ sym (ap (λ (b : Bool). b && (has c y && not (eqb x y)))
      (done_more c left v left' i.within w o x ∙ ap (λ (b : Bool). done c left x || b) (ne_eqb v x d) ∙ or_false (done c left x))));
}
  where
    or_true : (a : Bool) → (a || true) ≡ true
    or_true true = refl
    or_true false = refl

pub joining_end : {cap : ℕ} (c : ℕ) (near : List ℕ) → Joining cap c near 0 → part_of (record { set = c; near = near }) ≡ every_edge (has c)
joining_end c near i =
    part_ext (part_of (record { set = c; near = near })) (every_edge (has c)) (λ x. refl)
    (λ x y. i.is x y ∙ ap (λ (q : ℕ → Bool). q x && (has c y && not (eqb x y))) (done_all c))

-- ---- edges between u and each of ys

pub record Tying (cap u ys : ℕ) (r₀ r : List ℕ) (left : ℕ) : Type 0 where
  pub wide : length r ≡ cap
  pub within : Within left ys
  pub is : (x y : ℕ) → has (get_or r x zero) y ≡ (has (get_or r₀ x zero) y || (eqb y u && done ys left x))

pub tying_start : (cap : ℕ) (u ys : ℕ) (r : List ℕ) → length r ≡ cap → Tying cap u ys r r ys
tying_start cap u ys r l = record {
  wide = l;
  within = λ x t. t;
  is = λ x y. sym (ap (λ (b : Bool). has (get_or r x zero) y || (eqb y u && b)) (done_none ys x) ∙ nothing (has (get_or r x zero) y) (eqb y u));
}
  where
    nothing : (a b : Bool) → (a || (b && false)) ≡ a
    nothing true b = refl
    nothing false true = refl
    nothing false false = refl

pub tying_again : {cap : ℕ} (u ys : ℕ) (r₀ r : List ℕ) (left v s left' : ℕ) → Tying cap u ys r₀ r left → IsLowest cap left v → IsWith (get_or r v zero) u s → IsWithout left v left'
    → Tying cap u ys r₀ (set r v s) left'
tying_again u ys r₀ r left v s left' i w q o = record {
  wide = length-set r v s ∙ i.wide;
  within = within_again ys left v left' i.within w o;
  is = λ x y.
      get_d_set r v s x (omega (arith, i.wide, w.below)) (λ t. has t y ≡ (has (get_or r₀ x zero) y || (eqb y u && done ys left' x)))
      (λ e. q y ∙ ap₂ (λ (a b : Bool). a || b) (ap (λ (z : ℕ). has (get_or r z zero) y) e ∙ i.is x y) (eqb_turn u y)
      ∙ here (has (get_or r₀ x zero) y) (eqb y u) (done ys left x)
      ∙ sym (ap (λ (b : Bool). has (get_or r₀ x zero) y || (eqb y u && b)) (done_more ys left v left' i.within w o x ∙ ap (λ (b : Bool). done ys left x || b) (eq-eqb v x e))))
      (λ d. i.is x y
      ∙ ap (λ (b : Bool). has (get_or r₀ x zero) y || (eqb y u && b))
      (sym (done_more ys left v left' i.within w o x ∙ ap (λ (b : Bool). done ys left x || b) (ne_eqb v x d) ∙ or_false (done ys left x))));
}
  where
    here : (a b c : Bool) → ((a || (b && c)) || b) ≡ (a || (b && (c || true)))
    here true b c = refl
    here false true true = refl
    here false true false = refl
    here false false c = refl

laid : {cap : ℕ} (near : List ℕ) (u ys s : ℕ) (r : List ℕ) → u < length near → IsJoin (get_or near u zero) ys s → Tying cap u ys (set near u s) r 0
    → (x y : ℕ) → has (get_or r x zero) y ≡ (has (get_or near x zero) y || (eqb x u && has ys y || eqb y u && has ys x))
laid near u ys s r b j i x y =
    i.is x y
    ∙ ap₂ (λ (a c : Bool). a || (eqb y u && c))
    (get_d_set near u s x b (λ t. has t y ≡ (has (get_or near x zero) y || (eqb x u && has ys y)))
    (λ e. j y ∙ ap₂ (λ (a c : Bool). a || (c && has ys y)) (ap (λ (z : ℕ). has (get_or near z zero) y) e) (sym (eq-eqb x u (sym e))))
    (λ d. sym (ap (λ (c : Bool). has (get_or near x zero) y || (c && has ys y)) (ne_eqb x u (λ e. d (sym e))) ∙ or_false (has (get_or near x zero) y))))
    (ap (λ (q : ℕ → Bool). q x) (done_all ys))
    ∙ sym (or_assoc (has (get_or near x zero) y) (eqb x u && has ys y) (eqb y u && has ys x))

pub tying_end : (cap : ℕ) (near : List ℕ) (u ys s : ℕ) (r : List ℕ) → length near ≡ cap → u < cap → IsJoin (get_or near u zero) ys s → Tying cap u ys (set near u s) r 0
    → Ties near u ys r
tying_end cap near u ys s r l b j i = record { long = i.wide ∙ sym l; is = laid near u ys s r (omega arith) j i }

-- the same where the rows that are written, and the row that is read, are known by equations, as rows of several words are
pub tying_start_by : {cap u ys : ℕ} {r : List ℕ} (near : List ℕ) (s : ℕ) → length near ≡ cap → r ≡ set near u s → Tying cap u ys r r ys
tying_start_by {cap} {u} {ys} {r} near s l e = tying_start cap u ys r (subst (λ (k : List ℕ). length k ≡ cap) (sym e) (length-set near u s ∙ l))

pub tying_again_by : {cap u ys : ℕ} {r₀ r r' : List ℕ} {left v left' : ℕ} (x s : ℕ) → Tying cap u ys r₀ r left → IsLowest cap left v → x ≡ get_or r v zero → IsWith x u s
    → IsWithout left v left' → r' ≡ set r v s → Tying cap u ys r₀ r' left'
tying_again_by {cap} {u} {ys} {r₀} {r} {r'} {left} {v} {left'} x s i w a q o e =
    subst (λ (k : List ℕ). Tying cap u ys r₀ k left') (sym e) (tying_again u ys r₀ r left v s left' i w (subst (λ (k : ℕ). IsWith k u s) a q) o)

pub tying_end_by : {cap u ys : ℕ} {r₀ r : List ℕ} {left : ℕ} (near : List ℕ) (x s : ℕ) → length near ≡ cap → u < cap → x ≡ get_or near u zero → IsJoin x ys s
    → Tying cap u ys r₀ r left → r₀ ≡ set near u s → left ≡ 0 → Ties near u ys r
tying_end_by {cap} {u} {ys} {r₀} {r} {left} near x s l b a j i e z =
    tying_end cap near u ys s r l b (subst (λ (k : ℕ). IsJoin k ys s) a j)
    (subst (λ (k : List ℕ). Tying cap u ys k r 0) e (subst (λ (k : ℕ). Tying cap u ys r₀ r k) z i))
