-- Laws of a clique grown along a list: what it keeps, where its members come from, that it stays a clique, and which vertices can be left out.
-- Assumes nothing.
use mathlib.Core.Path.{◌≡◌, refl, sym, ap, ◌∙◌}
use mathlib.Core.Logic.{◌⊎◌, inl, inr, ◌≢◌}
use mathlib.Core.Bool.{Bool, true, false, not, ◌&&◌, cond}
use mathlib.Core.List.{List, [], ◌∷◌}
use Prim.Native.Nat.{ℕ, zero, suc, ◌<◌}
use lib.Dec.{T, eqb}
use borrow.Author.Tests.{ne_eqb}
use Rattle.sets.specs.Lists.{In, keep, members}
use Rattle.sets.proofs.TestLaws.{T-ext, and_l, and_r, and_t, and_true}
use Rattle.sets.proofs.ListLaws.{over_append}
use Rattle.sets.proofs.MemberLaws.{members_lowest}
use Rattle.graphs.specs.Graph.{Graph}
use Rattle.graphs.specs.Good.{Live, Good}
use Rattle.graphs.proofs.PairLaws.{ne_of, of_ne}
use Rattle.cliques.specs.Clique.{is_in, admits, joined, IsClique}
use Rattle.cliques.specs.Growth.{scan}
use Rattle.cliques.proofs.ListLaws.{every_get, every_make, in_of, of_in}

module _ (g : Graph) where
  -- ---- one vertex

  pub joined_keeps : (c : List ℕ) (x y : ℕ) → In y c → In y (joined g c x)
  joined_keeps c x y i = go (admits g c x)
    where
      go : (b : Bool) → In y (cond b (x ∷ c) c)
      go true = inr i
      go false = i

  pub joined_from : (c : List ℕ) (x y : ℕ) → In y (joined g c x) → ((y ≡ x) × T (admits g c x)) ⊎ In y c
  joined_from c x y i = go (admits g c x) i
    where
      go : (b : Bool) → In y (cond b (x ∷ c) c) → ((y ≡ x) × T b) ⊎ In y c
      go true (inl e) = inl (e, tt)
      go true (inr j) = inr j
      go false j = inr j

  pub joined_adds : (c : List ℕ) (x : ℕ) → T (admits g c x) → joined g c x ≡ x ∷ c
  joined_adds c x t = go (admits g c x) t
    where
      go : (b : Bool) → T b → cond b (x ∷ c) c ≡ x ∷ c
      go true t = refl
      go false t = absurd t

  pub joined_leaves : (c : List ℕ) (x : ℕ) → ¬ T (admits g c x) → joined g c x ≡ c
  joined_leaves c x t = go (admits g c x) t
    where
      go : (b : Bool) → ¬ T b → cond b (x ∷ c) c ≡ c
      go true t = absurd (t tt)
      go false t = refl

  -- ---- along a list

  pub scan_keeps : (c vs : List ℕ) (y : ℕ) → In y c → In y (scan g c vs)
  scan_keeps c [] y i = i
  scan_keeps c (x ∷ vs) y i = scan_keeps (joined g c x) vs y (joined_keeps c x y i)

  pub scan_from : (c vs : List ℕ) (y : ℕ) → In y (scan g c vs) → In y c ⊎ In y vs
  scan_from c [] y i = inl i
  scan_from c (x ∷ vs) y i = go (scan_from (joined g c x) vs y i)
    where
      go : In y (joined g c x) ⊎ In y vs → In y c ⊎ In y (x ∷ vs)
      go (inl j) = elim (joined_from c x y j) [ inl e ↦ inr (inl e.0) | inr k ↦ inl k ]
      go (inr j) = inr (inr j)

  -- who is not admitted is not admitted later
  pub scan_shuts : (c vs : List ℕ) (y : ℕ) → ¬ T (admits g c y) → ¬ T (admits g (scan g c vs) y)
  scan_shuts c vs y q t = q (every_make (g.adj y) c (λ z i. every_get (g.adj y) (scan g c vs) t z (scan_keeps c vs z i)))

  -- x stands in no clique before its turn, and not after it in the list: it is a member just where it is admitted at its turn
  pub scan_takes : (c vs : List ℕ) (x : ℕ) → ¬ In x c → ¬ In x vs → is_in x (scan g c (x ∷ vs)) ≡ admits g c x
  scan_takes c vs x p q = T-ext (is_in x (scan g c (x ∷ vs))) (admits g c x) there back
    where
      there : T (is_in x (scan g c (x ∷ vs))) → T (admits g c x)
      there t = go (scan_from (joined g c x) vs x (in_of x (scan g c (x ∷ vs)) t))
        where
          go : In x (joined g c x) ⊎ In x vs → T (admits g c x)
          go (inl i) = elim (joined_from c x x i) [ inl e ↦ e.1 | inr k ↦ absurd (p k) ]
          go (inr i) = absurd (q i)

      back : T (admits g c x) → T (is_in x (scan g c (x ∷ vs)))
      back t = of_in x (scan g c (x ∷ vs)) (scan_keeps (joined g c x) vs x (rw (joined_adds c x t) (inl refl)))

  -- those that c does not admit can be left out
  pub scan_skip : (c : List ℕ) (p q : ℕ → Bool) (n : ℕ) → ((x : ℕ) → T (q x) → T (p x)) → ((x : ℕ) → T (p x) → T (admits g c x) → T (q x))
      → scan g c (members p n) ≡ scan g c (members q n)
  scan_skip c p q zero a b = refl
  scan_skip c p q (suc n) a b =
      over_append (joined g) c (members p n) (keep (p n) n) ∙ ap (λ (d : List ℕ). scan g d (keep (p n) n)) (scan_skip c p q n a b)
      ∙ go (p n) (q n) (a n) (b n) ∙ sym (over_append (joined g) c (members q n) (keep (q n) n))
    where
      go : (x y : Bool) → (T y → T x) → (T x → T (admits g c n) → T y)
          → scan g (scan g c (members q n)) (keep x n) ≡ scan g (scan g c (members q n)) (keep y n)
      go true true f h = refl
      go true false f h = joined_leaves (scan g c (members q n)) n (scan_shuts c (members q n) n (h tt))
      go false true f h = absurd (f tt)
      go false false f h = refl

  -- the lowest is taken; of the others only those that are then admitted count
  pub scan_lowest : (l : List ℕ) (p q : ℕ → Bool) (v n : ℕ) → v < n → T (p v) → ((j : ℕ) → j < v → ¬ T (p j)) → T (admits g l v)
      → ¬ T (q v) → ((x : ℕ) → T (q x) → T (p x)) → ((x : ℕ) → T (p x) → x ≢ v → T (admits g (v ∷ l) x) → T (q x))
      → scan g (v ∷ l) (members q n) ≡ scan g l (members p n)
  scan_lowest l p q v n b t f a u into from =
      sym (scan_skip (v ∷ l) out q n (λ x s. and_t (p x) (not (eqb v x)) (into x s) (ne_of v x (λ e. u (rw e s))))
      (λ x s. from x (and_l (p x) (not (eqb v x)) s) (λ e. of_ne v x (and_r (p x) (not (eqb v x)) s) (sym e))))
      ∙ ap (λ (d : List ℕ). scan g d (members out n)) (sym (joined_adds l v a))
      ∙ ap (scan g l) (sym (members_lowest n p out v b t f gone same))
    where
      out : ℕ → Bool
      out x = p x && not (eqb v x)

      gone : ¬ T (out v)
      gone s = of_ne v v (and_r (p v) (not (eqb v v)) s) refl

      same : (j : ℕ) → j ≢ v → out j ≡ p j
      same j d = ap (λ (b : Bool). p j && not b) (ne_eqb v j (λ e. d (sym e))) ∙ and_true (p j)

-- ---- it stays a clique

module _ (n : ℕ) (g : Graph) (k : Good n g) where
  pub joined_clique : (c : List ℕ) (x : ℕ) → Live n g x → IsClique n g c → IsClique n g (joined g c x)
  joined_clique c x l q = go (admits g c x) (every_get (g.adj x) c)
    where
      go : (b : Bool) → (T b → (y : ℕ) → In y c → T (g.adj x y)) → IsClique n g (cond b (x ∷ c) c)
      go false f = q
      go true f = record {
        lives = λ y i. elim i [ inl e ↦ rw e l | inr j ↦ q.lives y j ];
        once_each = (λ i. k.no_loop x (f tt x i), q.once_each);
        pairs = λ y z i j. two y z i j;
      }
        where
          two : (y z : ℕ) → In y (x ∷ c) → In z (x ∷ c) → y ≢ z → T (g.adj y z)
          two y z (inl a) (inl b) h = absurd (h (a ∙ sym b))
          two y z (inl a) (inr j) h = rw a (f tt z j)
          two y z (inr i) (inl b) h = rw b (k.symm x y (f tt y i))
          two y z (inr i) (inr j) h = q.pairs y z i j h

  pub scan_clique : (c vs : List ℕ) → ((x : ℕ) → In x vs → Live n g x) → IsClique n g c → IsClique n g (scan g c vs)
  scan_clique c [] l q = q
  scan_clique c (x ∷ vs) l q = scan_clique (joined g c x) vs (λ y i. l y (inr i)) (joined_clique c x (l x (inl refl)) q)

  pub empty_clique : IsClique n g []
  empty_clique = record { lives = λ x i. absurd i; once_each = tt; pairs = λ x y i. absurd i }

  pub alone_clique : (x : ℕ) → Live n g x → IsClique n g (x ∷ [])
  alone_clique x l = joined_clique [] x l empty_clique
