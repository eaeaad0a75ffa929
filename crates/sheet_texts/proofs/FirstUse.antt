-- Colour bytes that are numbered by first use are those of `Canon`, and as many numbers are used as `groups` says.
use Prim.Native.Nat.{ℕ, suc, ◌+◌, ◌≤◌, ◌<◌, max, zero-le, suc-le-suc}
use mathlib.Core.Path.{◌≡◌, refl, sym, ap, ◌∙◌}
use mathlib.Core.List.{List, [], ◌∷◌}
use Rattle.std.specs.Prelude.{Ok, Err}
use mathlib.Core.Bool.{Bool, true, false, cond}
use native.Mathlib.Omega.{arith}
use borrow.Author.Tests.{le-leb, lt-leb, leb-true, leb-false}
use lib.Dec.{leb}
use lib.ListN.{length, take, drop, get_or, drop_of_length-le}
use Rattle.clashes.specs.Divisions.{Canon, groups}
use Rattle.lines.proofs.Basics.{from}
use Rattle.sheet_texts.specs.Sheet.{number_from}

-- ---- what it means

pub canon_used : (m i : ℕ) (c : List ℕ) → Canon m c → number_from m i c ≡ Ok (groups m c)
canon_used m i [] h = refl
canon_used m i (x ∷ c) h = rw (le-leb x m h.0) (canon_used (max m (suc x)) (i + 1) c h.1)

pub used_is : (m i : ℕ) (c : List ℕ) (k : ℕ) → number_from m i c ≡ Ok k → Canon m c × (k ≡ groups m c)
used_is m i [] k e = (tt, let z : m ≡ k = cc in sym z)
used_is m i (x ∷ c) k e = go (leb x m) refl e (used_is (max m (suc x)) (i + 1) c k)
  where
    go : (b : Bool) → leb x m ≡ b → cond b (number_from (max m (suc x)) (i + 1) c) (Err i) ≡ Ok k
        → (number_from (max m (suc x)) (i + 1) c ≡ Ok k → Canon (max m (suc x)) c × (k ≡ groups (max m (suc x)) c)) → Canon m (x ∷ c) × (k ≡ groups m (x ∷ c))
    go true t e r = let w = r e in ((leb-true x m t, w.0), w.1)
    go false t e r = cc

-- the lowest index at fault: those before it are numbered by first use, with it they are not
pub record LowestWrong (m : ℕ) (c : List ℕ) (j : ℕ) : Type 0 where
  pub below : j < length c
  pub before : Canon m (take j c)
  pub wrong : ¬ Canon m (take (suc j) c)

pub wrong_is : (m i : ℕ) (c : List ℕ) (j : ℕ) → number_from m i c ≡ Err j → (d : ℕ) × (j ≡ i + d) × LowestWrong m c d
wrong_is m i [] j e = cc
wrong_is m i (x ∷ c) j e = go (leb x m) refl e (wrong_is (max m (suc x)) (i + 1) c j)
  where
    go : (b : Bool) → leb x m ≡ b → cond b (number_from (max m (suc x)) (i + 1) c) (Err i) ≡ Err j
        → (number_from (max m (suc x)) (i + 1) c ≡ Err j → (d : ℕ) × (j ≡ i + 1 + d) × LowestWrong (max m (suc x)) c d) → (d : ℕ) × (j ≡ i + d) × LowestWrong m (x ∷ c) d
    go true t e r =
        let w = r e in
        (suc w.0, omega (arith, w.1), record { below = suc-le-suc w.2.below; before = (leb-true x m t, w.2.before); wrong = λ h. w.2.wrong h.1 })
    go false t e r =
        let z : i ≡ j = cc in
        (0, omega arith, record { below = suc-le-suc zero-le; before = tt; wrong = λ h. let l = leb-false x m t in omega (arith, h.0) })

-- ---- the loop's turns

module _ (c : List ℕ) (m i g : ℕ) (h : i < length c) (e : g ≡ get_or c i 0) where
  pub number_wrong : m < g → number_from m i (drop i c) ≡ Err i
  number_wrong l = rw (from c i h, ← e, lt-leb g m l)

  turn : g ≤ m → number_from m i (drop i c) ≡ number_from (max m (suc g)) (i + 1) (drop (i + 1) c)
  turn l = rw (from c i h, ← e, le-leb g m l)

  -- the next number
  pub number_new : g ≡ m → number_from m i (drop i c) ≡ number_from (m + 1) (i + 1) (drop (i + 1) c)
  number_new z = let w : max m (suc g) ≡ m + 1 = omega arith in turn (omega arith) ∙ ap (λ (x : ℕ). number_from x (i + 1) (drop (i + 1) c)) w

  -- a number that was used before
  pub number_old : g ≤ m → (g ≡ m → ⊥) → number_from m i (drop i c) ≡ number_from m (i + 1) (drop (i + 1) c)
  number_old l n = let w : max m (suc g) ≡ m = omega arith in turn l ∙ ap (λ (x : ℕ). number_from x (i + 1) (drop (i + 1) c)) w

pub number_end : (c : List ℕ) (m i : ℕ) → length c ≤ i → number_from m i (drop i c) ≡ Ok m
number_end c m i h = rw (drop_of_length-le c h)
