-- Lines of a text, with one more at the front, and with the first ones taken off.
--
--   Rest t0 i t : t are the lines of t0 after the first i
--
-- Assumes nothing.
use Prim.Native.Nat.{ℕ, zero, suc, ◌+◌, ◌≤◌}
use mathlib.Core.Path.{◌≡◌, refl, ap, subst, ◌∙◌}
use mathlib.Core.Logic.{◌⊎◌, inl, inr}
use mathlib.Core.List.{List}
use native.Mathlib.Omega.{arith}
use Rattle.std.specs.Prelude.{Option}
use Rattle.lines.specs.Text.{Text, done, unended, ended, line_count}
use Rattle.lists.specs.Shape.{shape_of}
use Rattle.lists.specs.declared.Shape.{Shape}
use Rattle.texts.specs.Faults.{Unended}
use Rattle.texts.specs.Listed.{At, Whole}
use Rattle.texts.specs.ListColumns.{line_at}

-- ---- a line more at the front

pub at_first : (l : List ℕ) (t : Text) (x : Option Shape) → shape_of l ≡ x → At (ended l t) 1 x
at_first l t x e = ((omega arith, omega arith), e)

pub at_later : (l : List ℕ) (t : Text) (k : ℕ) (x : Option Shape) → At t k x → At (ended l t) (suc k) x
at_later l t zero x h = absurd (omega (arith, h.0.0))
at_later l t (suc k) x h = ((omega arith, omega (arith, h.0.1)), h.1)

pub at_cases : (l : List ℕ) (t : Text) (k : ℕ) (x : Option Shape) → At (ended l t) k x → ((k ≡ 1) × (shape_of l ≡ x)) ⊎ ((j : ℕ) × (k ≡ suc j) × At t j x)
at_cases l t zero x h = absurd (omega (arith, h.0.0))
at_cases l t (suc zero) x h = inl (refl, h.1)
at_cases l t (suc (suc k)) x h = inr (suc k, refl, ((omega arith, omega (arith, h.0.1)), h.1))

pub at_none : (k : ℕ) (x : Option Shape) → At done k x → ⊥
at_none k x h = omega (arith, h.0.0, h.0.1)

-- ---- the rest of a text

pub record Rest (t0 : Text) (i : ℕ) (t : Text) : Type 0 where
  pub forth : (k : ℕ) (x : Option Shape) → At t k x → At t0 (i + k) x
  pub back : (k : ℕ) (x : Option Shape) → 1 ≤ k → At t0 (i + k) x → At t k x
  pub open_forth : (k : ℕ) → 1 ≤ k → Unended t k → Unended t0 (i + k)
  pub open_back : (k : ℕ) → 1 ≤ k → Unended t0 (i + k) → Unended t k
  pub many : line_count t0 ≡ i + line_count t
  pub lines : (k : ℕ) → 1 ≤ k → line_at t0 (i + k) ≡ line_at t k

at_unstep : (l : List ℕ) (t : Text) (k : ℕ) (x : Option Shape) → 1 ≤ k → At (ended l t) (suc k) x → At t k x
at_unstep l t zero x p h = absurd (omega arith)
at_unstep l t (suc k) x p h = ((omega arith, omega (arith, h.0.1)), h.1)

line_unstep : (l : List ℕ) (t : Text) (k : ℕ) → 1 ≤ k → line_at (ended l t) (suc k) ≡ line_at t k
line_unstep l t zero p = absurd (omega arith)
line_unstep l t (suc k) p = refl

pub rest_whole : (t : Text) → Rest t 0 t
rest_whole t = record {
  forth = λ k x h. let e : k ≡ 0 + k = omega arith in subst (λ (j : ℕ). At t j x) e h;
  back = λ k x p h. let e : 0 + k ≡ k = omega arith in subst (λ (j : ℕ). At t j x) e h;
  open_forth = λ k p h. let e : k ≡ 0 + k = omega arith in subst (Unended t) e h;
  open_back = λ k p h. let e : 0 + k ≡ k = omega arith in subst (Unended t) e h;
  many = omega arith;
  lines = λ k p. let e : 0 + k ≡ k = omega arith in ap (line_at t) e;
}

pub rest_next : (t0 : Text) (i : ℕ) (l : List ℕ) (t : Text) → Rest t0 i (ended l t) → Rest t0 (i + 1) t
rest_next t0 i l t r = record {
  forth = λ k x h. let e : i + suc k ≡ i + 1 + k = omega arith in subst (λ (j : ℕ). At t0 j x) e (r.forth (suc k) x (at_later l t k x h));
  back = λ k x p h. let e : i + 1 + k ≡ i + suc k = omega arith in at_unstep l t k x p (r.back (suc k) x (omega arith) (subst (λ (j : ℕ). At t0 j x) e h));
  open_forth = λ k p h. let e : i + suc k ≡ i + 1 + k = omega arith in subst (Unended t0) e (r.open_forth (suc k) (omega arith) h);
  open_back = λ k p h. let e : i + 1 + k ≡ i + suc k = omega arith in r.open_back (suc k) (omega arith) (subst (Unended t0) e h);
  many = omega (arith, r.many);
  lines = λ k p. let e : i + 1 + k ≡ i + suc k = omega arith in ap (line_at t0) e ∙ r.lines (suc k) (omega arith) ∙ line_unstep l t k p;
}

-- ---- ended lines

pub no_line : (t : Text) (x : Option Shape) → ¬ At t 0 x
no_line t x a = omega (arith, a.0.0)

pub unended_none : (t : Text) → ¬ Unended t 0
unended_none done x = x
unended_none (unended l) x = omega arith
unended_none (ended l t) x = x

pub whole_closed : (t : Text) (k : ℕ) → Whole t → ¬ Unended t k
whole_closed done k w u = u
whole_closed (unended l) k w u = w
whole_closed (ended l t) zero w u = u
whole_closed (ended l t) (suc k) w u = whole_closed t k w u
