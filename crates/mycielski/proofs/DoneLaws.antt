-- A loop over the members of a set, lowest first: what is done, what one turn does to it, and to tests over all that is done.
-- Assumes nothing.
use mathlib.Core.Path.{◌≡◌, refl, sym, ap, ◌∙◌, fun_ext, subst}
use mathlib.Core.Logic.{◌⊎◌, inl, inr, ◌≢◌}
use mathlib.Core.Bool.{Bool, true, false, not, ◌&&◌, ◌||◌}
use Prim.Native.Nat.{ℕ, zero, suc, ◌+◌, ◌<◌}
use native.Mathlib.Decide.{ℕ_discrete}
use native.Mathlib.Omega.{arith}
use lib.Dec.{T, eqb, eqb→eq}
use borrow.Author.Tests.{eq-eqb, ne_eqb}
use Rattle.sets.specs.Lists.{bit, count, all, any, upto}
use Rattle.sets.specs.Set.{has, IsWithout, IsLowest}
use Rattle.sets.proofs.TestLaws.{and_l, and_r, and_t, and_true, or_false, or_l, or_r, or_cases, T→true, T→false, T-ext, eqb_of, all_get, all_make, any_get, any_make}
use Rattle.sets.proofs.MemberLaws.{count_but}
use Rattle.sets.proofs.SetLaws.{has_none}
use Rattle.cliques.specs.Growth.{Within}

-- what passes where a test does
pub imp_get : (a b : Bool) → T (not a || b) → T a → T b
imp_get true b t u = t
imp_get false b t u = absurd u

pub imp_make : (a b : Bool) → (T a → T b) → T (not a || b)
imp_make true b r = r tt
imp_make false b r = tt

-- x is in s and not left
abbrev pub done : ℕ → ℕ → ℕ → Bool
done s left x = has s x && not (has left x)

pub done_none : (s x : ℕ) → done s s x ≡ false
done_none s x = go (has s x)
  where
    go : (b : Bool) → (b && not b) ≡ false
    go true = refl
    go false = refl

pub done_all : (s : ℕ) → (λ x. done s 0 x) ≡ has s
done_all s = fun_ext (λ x. ap (λ (b : Bool). has s x && not b) (has_none x) ∙ and_true (has s x))

module _ {cap : ℕ} (s left v left' : ℕ) (i : Within left s) (w : IsLowest cap left v) (o : IsWithout left v left') where
  pub within_again : Within left' s
  within_again x t = i x (and_l (has left x) (not (eqb v x)) (subst T (o x) t))

  pub done_more : (x : ℕ) → done s left' x ≡ (done s left x || eqb v x)
  done_more x = ap (λ (b : Bool). has s x && not b) (o x) ∙ go (ℕ_discrete v x)
    where
      cases : (a b : Bool) → (a && not (b && true)) ≡ ((a && not b) || false)
      cases true true = refl
      cases true false = refl
      cases false b = refl

      here : (a b : Bool) → a ≡ true → (a && not (b && false)) ≡ ((a && not b) || true)
      here a true e = ap (λ (c : Bool). c && true) e ∙ ap (λ (c : Bool). (c && false) || true) (sym e)
      here a false e = ap (λ (c : Bool). c && true) e ∙ sym (ap (λ (c : Bool). (c && true) || true) e)

      go : Dec (v ≡ x) → (has s x && not (has left x && not (eqb v x))) ≡ (done s left x || eqb v x)
      go (yes e) = rw (eq-eqb v x e) (here (has s x) (has left x) (T→true (has s x) (subst (λ z. T (has s z)) e (i v w.member))))
      go (no d) = rw (ne_eqb v x d) (cases (has s x) (has left x))

module _ (n : ℕ) (q q' f : ℕ → Bool) (u : ℕ) (b : u < n) (h : (v : ℕ) → q' v ≡ (q v || eqb u v)) where
  old : (v : ℕ) → T (q v) → T (q' v)
  old v t = subst T (sym (h v)) (or_l (q v) (eqb u v) t)

  new : T (q' u)
  new = subst T (sym (h u)) (or_r (q u) (eqb u u) (eqb_of u u refl))

  which : (v : ℕ) → T (q' v) → T (q v) ⊎ (u ≡ v)
  which v t = elim (or_cases (q v) (eqb u v) (subst T (h v) t)) [ inl a ↦ inl a | inr e ↦ inr (eqb→eq u v e) ]

  pub all_more : all n (λ v. not (q' v) || f v) ≡ (all n (λ v. not (q v) || f v) && f u)
  all_more = T-ext (all n (λ v. not (q' v) || f v)) (all n (λ v. not (q v) || f v) && f u) there back
    where
      there : T (all n (λ v. not (q' v) || f v)) → T (all n (λ v. not (q v) || f v) && f u)
      there t =
          and_t (all n (λ v. not (q v) || f v)) (f u)
          (all_make n (λ v. not (q v) || f v) (λ v l. imp_make (q v) (f v) (λ a. imp_get (q' v) (f v) (all_get n (λ v. not (q' v) || f v) t v l) (old v a))))
          (imp_get (q' u) (f u) (all_get n (λ v. not (q' v) || f v) t u b) new)

      back : T (all n (λ v. not (q v) || f v) && f u) → T (all n (λ v. not (q' v) || f v))
      back t =
          all_make n (λ v. not (q' v) || f v)
          (λ v l. imp_make (q' v) (f v)
          (λ a. elim (which v a) [
            | inl c ↦ imp_get (q v) (f v) (all_get n (λ v. not (q v) || f v) (and_l (all n (λ v. not (q v) || f v)) (f u) t) v l) c
            | inr e ↦ subst (λ z. T (f z)) e (and_r (all n (λ v. not (q v) || f v)) (f u) t)
          ]))

  pub any_more : any n (λ v. q' v && f v) ≡ (any n (λ v. q v && f v) || f u)
  any_more = T-ext (any n (λ v. q' v && f v)) (any n (λ v. q v && f v) || f u) there back
    where
      there : T (any n (λ v. q' v && f v)) → T (any n (λ v. q v && f v) || f u)
      there t =
          let r = any_get n (λ v. q' v && f v) t in
          let p = and_r (q' r.0) (f r.0) r.2 in
          elim (which r.0 (and_l (q' r.0) (f r.0) r.2)) [
            | inl c ↦ or_l (any n (λ v. q v && f v)) (f u) (any_make n (λ v. q v && f v) r.0 r.1 (and_t (q r.0) (f r.0) c p))
            | inr e ↦ or_r (any n (λ v. q v && f v)) (f u) (subst (λ z. T (f z)) (sym e) p)
          ]

      back : T (any n (λ v. q v && f v) || f u) → T (any n (λ v. q' v && f v))
      back t =
          elim (or_cases (any n (λ v. q v && f v)) (f u) t) [
            | inl c ↦ (let r = any_get n (λ v. q v && f v) c in
                any_make n (λ v. q' v && f v) r.0 r.1
                (and_t (q' r.0) (f r.0) (old r.0 (and_l (q r.0) (f r.0) r.2)) (and_r (q r.0) (f r.0) r.2)))
            | inr p ↦ any_make n (λ v. q' v && f v) u b (and_t (q' u) (f u) new p)
          ]

  pub count_more : ¬ T (q u) → count (λ v. q v && f v) (upto n) + bit (f u) ≡ count (λ v. q' v && f v) (upto n)
  count_more out =
      let here : bit (q' u && f u) ≡ bit (f u) = ap (λ (a : Bool). bit (a && f u)) (T→true (q' u) new) in
      let before : bit (q u && f u) ≡ 0 = ap (λ (a : Bool). bit (a && f u)) (T→false (q u) out) in
      omega (arith, here, before, count_but n (λ v. q' v && f v) (λ v. q v && f v) u b others)
    where
      others : (j : ℕ) → j ≢ u → (q j && f j) ≡ (q' j && f j)
      others j d = ap (λ (a : Bool). a && f j) (sym (h j ∙ ap (λ (a : Bool). q j || a) (ne_eqb u j (λ e. d (sym e))) ∙ or_false (q j)))

-- where nothing is done
pub all_none : (n : ℕ) (q f : ℕ → Bool) → ((v : ℕ) → q v ≡ false) → all n (λ v. not (q v) || f v) ≡ true
all_none n q f h = T→true (all n (λ v. not (q v) || f v)) (all_make n (λ v. not (q v) || f v) (λ v l. rw (h v) tt))

pub any_none : (n : ℕ) (q f : ℕ → Bool) → ((v : ℕ) → q v ≡ false) → any n (λ v. q v && f v) ≡ false
any_none zero q f h = refl
any_none (suc n) q f h = rw (any_none n q f h, h n) refl
