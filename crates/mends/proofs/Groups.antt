-- Groups as tests: free of clashes, apart, and what is among them.
--
--   has gs e           : some group of gs has the entry e
--   Free p, AllFree gs : no two of the group, of each group, clash
--   Apart gs           : no entry stands in two groups
--   OneGroup gs x y    : some group has both
use Prim.Native.Nat.{ℕ, suc, ◌<◌}
use mathlib.Core.Path.{◌≡◌, refl, sym, ap, subst, ◌∙◌}
use mathlib.Core.Logic.{◌⊎◌, inl, inr, ⊎_elim}
use mathlib.Core.List.{List, [], ◌∷◌, ◌++◌}
use mathlib.Core.Bool.{Bool, true, false, cond, ◌&&◌, ◌||◌}
use native.Mathlib.Omega.{arith}
use lib.Dec.{T, eqb, eqb→eq}
use Rattle.sets.specs.Lists.{In, NoDup, put, some?, over}
use Rattle.sets.proofs.TestLaws.{and_t, or_l, or_r, or_cases, eqb_of, T→true, T→false, any_make}
use Rattle.clashes.specs.Matrix.{Valid}
use Rattle.mends.specs.Mend.{none, with, clashes, admit, group_place}

abbrev pub has : List (ℕ → Bool) → ℕ → Bool
has gs e = some? (λ p. p e) gs

-- ---- one more in a set

module _ (p : ℕ → Bool) (e x : ℕ) where
  pub with_cases : T (with p e x) → T (p x) ⊎ (x ≡ e)
  with_cases t = ⊎_elim inl (λ q. inr (sym (eqb→eq e x q))) (or_cases (p x) (eqb e x) t)

  pub with_old : T (p x) → T (with p e x)
  with_old t = or_l (p x) (eqb e x) t

pub with_new : (p : ℕ → Bool) (e : ℕ) → T (with p e e)
with_new p e = or_r (p e) (eqb e e) (eqb_of e e refl)

-- ---- free of clashes

module _ (n : ℕ) (clash : ℕ → ℕ → Bool) where
  abbrev pub Free : (ℕ → Bool) → Type 0
  Free p = (x y : ℕ) → x < n → y < n → T (p x) → T (p y) → ¬ T (clash x y)

  abbrev pub AllFree : List (ℕ → Bool) → Type 0
  AllFree [] = Unit {0}
  AllFree (p ∷ gs) = Free p × AllFree gs

  pub none_free : Free none
  none_free x y hx hy a b c = a

  calm : (p : ℕ → Bool) (e : ℕ) → clashes n clash p e ≡ false → (y : ℕ) → y < n → T (p y) → ¬ T (clash e y)
  calm p e q y h t c = subst T q (any_make n (λ j. p j && clash e j) y h (and_t (p y) (clash e y) t c))

  pub all_free_snoc : (gs : List (ℕ → Bool)) (p : ℕ → Bool) (b : Bool) → AllFree gs → Free p → AllFree (gs ++ put b p [])
  all_free_snoc [] p true f g = (g, tt)
  all_free_snoc [] p false f g = tt
  all_free_snoc (q ∷ gs) p b f g = (f.0, all_free_snoc gs p b f.1 g)

  module _ (v : Valid n clash) where
    pub with_free : (p : ℕ → Bool) (e : ℕ) → e < n → clashes n clash p e ≡ false → Free p → Free (with p e)
    with_free p e he q f x y hx hy a b c = go (with_cases p e x a) (with_cases p e y b)
      where
        go : T (p x) ⊎ (x ≡ e) → T (p y) ⊎ (y ≡ e) → ⊥
        go (inl a) (inl b) = f x y hx hy a b c
        go (inl a) (inr z) = calm p e q x hx a (v.both_ways x e hx he (subst (λ (w : ℕ). T (clash x w)) z c))
        go (inr z) (inl b) = calm p e q y hy b (subst (λ (w : ℕ). T (clash w y)) z c)
        go (inr z) (inr w) = v.no_self x hx (subst (λ (k : ℕ). T (clash x k)) (w ∙ sym z) c)

    admit_free : (gs : List (ℕ → Bool)) (e : ℕ) → e < n → AllFree gs → AllFree (admit n clash gs e)
    admit_free [] e h f = (λ x y hx hy a b c. v.no_self x hx (subst (λ (k : ℕ). T (clash x k)) (sym (eqb→eq e y b) ∙ eqb→eq e x a) c), tt)
    admit_free (p ∷ gs) e h f = go (clashes n clash p e) refl (admit_free gs e h f.1)
      where
        go : (b : Bool) → clashes n clash p e ≡ b → AllFree (admit n clash gs e) → AllFree (cond b (p ∷ admit n clash gs e) (with p e ∷ gs))
        go true q r = (f.0, r)
        go false q r = (with_free p e h q f.0, f.1)

    pub over_free : (es : List ℕ) (gs : List (ℕ → Bool)) → ((e : ℕ) → In e es → e < n) → AllFree gs → AllFree (over (admit n clash) gs es)
    over_free [] gs h f = f
    over_free (e ∷ es) gs h f = over_free es (admit n clash gs e) (λ x m. h x (inr m)) (admit_free gs e (h e (inl refl)) f)

  -- two of one group do not clash
  pub free_apart : (gs : List (ℕ → Bool)) → AllFree gs → (x y : ℕ) → x < n → y < n → T (has gs x) → T (has gs y) → group_place gs x ≡ group_place gs y → T (clash x y) → ⊥
  free_apart [] f x y hx hy a b e c = a
  free_apart (p ∷ gs) f x y hx hy a b e c = go (p x) refl (p y) refl a b e (free_apart gs f.1 x y hx hy)
    where
      go : (s : Bool) → p x ≡ s → (t : Bool) → p y ≡ t → T (s || has gs x) → T (t || has gs y) → cond s 0 (suc (group_place gs x)) ≡ cond t 0 (suc (group_place gs y))
          → (T (has gs x) → T (has gs y) → group_place gs x ≡ group_place gs y → T (clash x y) → ⊥) → ⊥
      go true h true i a b e r = f.0 x y hx hy (subst T (sym h) tt) (subst T (sym i) tt) c
      go true h false i a b e r = omega arith
      go false h true i a b e r = omega arith
      go false h false i a b e r = r a b (omega arith) c

-- ---- what is among them

pub has_snoc : (gs : List (ℕ → Bool)) (p : ℕ → Bool) (b : Bool) (x : ℕ) → T (has (gs ++ put b p []) x) → T (has gs x) ⊎ T (p x)
has_snoc [] p true x t = ⊎_elim inr (λ z. absurd z) (or_cases (p x) false t)
has_snoc [] p false x t = absurd t
has_snoc (q ∷ gs) p b x t =
    ⊎_elim (λ a. inl (or_l (q x) (has gs x) a)) (λ a. ⊎_elim (λ z. inl (or_r (q x) (has gs x) z)) inr (has_snoc gs p b x a)) (or_cases (q x) (has (gs ++ put b p []) x) t)

pub has_before : (gs : List (ℕ → Bool)) (p : ℕ → Bool) (b : Bool) (x : ℕ) → T (has gs x) → T (has (gs ++ put b p []) x)
has_before [] p b x t = absurd t
has_before (q ∷ gs) p b x t =
    ⊎_elim (λ a. or_l (q x) (has (gs ++ put b p []) x) a) (λ a. or_r (q x) (has (gs ++ put b p []) x) (has_before gs p b x a)) (or_cases (q x) (has gs x) t)

pub has_last : (gs : List (ℕ → Bool)) (p : ℕ → Bool) (b : Bool) (x : ℕ) → b ≡ true → T (p x) → T (has (gs ++ put b p []) x)
has_last [] p b x e t = rw e (or_l (p x) false t)
has_last (q ∷ gs) p b x e t = or_r (q x) (has (gs ++ put b p []) x) (has_last gs p b x e t)

module _ (n : ℕ) (clash : ℕ → ℕ → Bool) where
  admit_old : (gs : List (ℕ → Bool)) (e x : ℕ) → T (has gs x) → T (has (admit n clash gs e) x)
  admit_old [] e x h = absurd h
  admit_old (p ∷ gs) e x h = go (clashes n clash p e) (or_cases (p x) (has gs x) h) (admit_old gs e x)
    where
      go : (b : Bool) → T (p x) ⊎ T (has gs x) → (T (has gs x) → T (has (admit n clash gs e) x)) → T (has (cond b (p ∷ admit n clash gs e) (with p e ∷ gs)) x)
      go true (inl a) r = or_l (p x) (has (admit n clash gs e) x) a
      go true (inr a) r = or_r (p x) (has (admit n clash gs e) x) (r a)
      go false (inl a) r = or_l (with p e x) (has gs x) (with_old p e x a)
      go false (inr a) r = or_r (with p e x) (has gs x) a

  admit_new : (gs : List (ℕ → Bool)) (e : ℕ) → T (has (admit n clash gs e) e)
  admit_new [] e = or_l (with none e e) false (with_new none e)
  admit_new (p ∷ gs) e = go (clashes n clash p e) (admit_new gs e)
    where
      go : (b : Bool) → T (has (admit n clash gs e) e) → T (has (cond b (p ∷ admit n clash gs e) (with p e ∷ gs)) e)
      go true r = or_r (p e) (has (admit n clash gs e) e) r
      go false r = or_l (with p e e) (has gs e) (with_new p e)

  pub admit_less : (gs : List (ℕ → Bool)) (e x : ℕ) → T (has (admit n clash gs e) x) → (x ≡ e) ⊎ T (has gs x)
  admit_less [] e x h = ⊎_elim (λ a. inl (sym (eqb→eq e x a))) (λ a. absurd a) (or_cases (eqb e x) false h)
  admit_less (p ∷ gs) e x h = go (clashes n clash p e) h (admit_less gs e x)
    where
      go : (b : Bool) → T (has (cond b (p ∷ admit n clash gs e) (with p e ∷ gs)) x) → (T (has (admit n clash gs e) x) → (x ≡ e) ⊎ T (has gs x)) → (x ≡ e) ⊎ T (p x || has gs x)
      go true h r =
          ⊎_elim (λ a. inr (or_l (p x) (has gs x) a)) (λ a. ⊎_elim inl (λ q. inr (or_r (p x) (has gs x) q)) (r a)) (or_cases (p x) (has (admit n clash gs e) x) h)
      go false h r =
          ⊎_elim (λ a. ⊎_elim (λ q. inr (or_l (p x) (has gs x) q)) inl (with_cases p e x a)) (λ a. inr (or_r (p x) (has gs x) a)) (or_cases (with p e x) (has gs x) h)

  pub over_old : (es : List ℕ) (gs : List (ℕ → Bool)) (x : ℕ) → T (has gs x) → T (has (over (admit n clash) gs es) x)
  over_old [] gs x h = h
  over_old (e ∷ es) gs x h = over_old es (admit n clash gs e) x (admit_old gs e x h)

  pub over_new : (es : List ℕ) (gs : List (ℕ → Bool)) (x : ℕ) → In x es → T (has (over (admit n clash) gs es) x)
  over_new [] gs x h = absurd h
  over_new (e ∷ es) gs x h =
      ⊎_elim (λ q. over_old es (admit n clash gs e) x (subst (λ (y : ℕ). T (has (admit n clash gs e) y)) (sym q) (admit_new gs e)))
      (λ m. over_new es (admit n clash gs e) x m) h

-- ---- apart

abbrev pub Apart : List (ℕ → Bool) → Type 0
Apart [] = Unit {0}
Apart (p ∷ gs) = ((x : ℕ) → T (p x) → ¬ T (has gs x)) × Apart gs

abbrev pub OneGroup : List (ℕ → Bool) → ℕ → ℕ → Type 0
OneGroup [] x y = ⊥
OneGroup (p ∷ gs) x y = (T (p x) × T (p y)) ⊎ OneGroup gs x y

one_has : (gs : List (ℕ → Bool)) (x y : ℕ) → OneGroup gs x y → T (has gs x) × T (has gs y)
one_has [] x y h = absurd h
one_has (p ∷ gs) x y (inl h) = (or_l (p x) (has gs x) h.0, or_l (p y) (has gs y) h.1)
one_has (p ∷ gs) x y (inr h) = let r = one_has gs x y h in (or_r (p x) (has gs x) r.0, or_r (p y) (has gs y) r.1)

pub one_place : (gs : List (ℕ → Bool)) (x y : ℕ) → Apart gs → OneGroup gs x y → group_place gs x ≡ group_place gs y
one_place [] x y a h = absurd h
one_place (p ∷ gs) x y a (inl h) = rw (T→true (p x) h.0, T→true (p y) h.1)
one_place (p ∷ gs) x y a (inr h) =
    let r = one_has gs x y h in
    rw (T→false (p x) (λ t. a.0 x t r.0), T→false (p y) (λ t. a.0 y t r.1)) (ap suc (one_place gs x y a.1 h))

pub apart_snoc : (gs : List (ℕ → Bool)) (p : ℕ → Bool) (b : Bool) → Apart gs → ((x : ℕ) → T (p x) → ¬ T (has gs x)) → Apart (gs ++ put b p [])
apart_snoc [] p true a h = ((λ x t z. z), tt)
apart_snoc [] p false a h = tt
apart_snoc (q ∷ gs) p b a h = (
  λ x t z. ⊎_elim (λ y. a.0 x t y) (λ y. h x y (or_l (q x) (has gs x) t)) (has_snoc gs p b x z),
  apart_snoc gs p b a.1 (λ x t z. h x t (or_r (q x) (has gs x) z)),
)

module _ (n : ℕ) (clash : ℕ → ℕ → Bool) where
  admit_apart : (gs : List (ℕ → Bool)) (e : ℕ) → ¬ T (has gs e) → Apart gs → Apart (admit n clash gs e)
  admit_apart [] e h a = ((λ x m t. t), tt)
  admit_apart (p ∷ gs) e h a = go (clashes n clash p e) (admit_apart gs e (λ t. h (or_r (p e) (has gs e) t)) a.1)
    where
      go : (b : Bool) → Apart (admit n clash gs e) → Apart (cond b (p ∷ admit n clash gs e) (with p e ∷ gs))
      go true r =
          (λ x m t. ⊎_elim (λ q. h (or_l (p e) (has gs e) (subst (λ (y : ℕ). T (p y)) q m))) (λ q. a.0 x m q) (admit_less n clash gs e x t), r)
      go false r =
          (λ x m t. ⊎_elim (λ q. a.0 x q t) (λ q. h (or_r (p e) (has gs e) (subst (λ (y : ℕ). T (has gs y)) q t))) (with_cases p e x m), a.1)

  pub over_apart : (es : List ℕ) (gs : List (ℕ → Bool)) → NoDup es → ((e : ℕ) → In e es → ¬ T (has gs e)) → Apart gs → Apart (over (admit n clash) gs es)
  over_apart [] gs d h a = a
  over_apart (e ∷ es) gs d h a =
      over_apart es (admit n clash gs e) d.1
      (λ x m t. ⊎_elim (λ q. d.0 (subst (λ (y : ℕ). In y es) q m)) (λ q. h x (inr m) q) (admit_less n clash gs e x t))
      (admit_apart gs e (h e (inl refl)) a)

  admit_one : (gs : List (ℕ → Bool)) (e x y : ℕ) → OneGroup gs x y → OneGroup (admit n clash gs e) x y
  admit_one [] e x y h = absurd h
  admit_one (p ∷ gs) e x y h = go (clashes n clash p e) h (admit_one gs e x y)
    where
      go : (b : Bool) → (T (p x) × T (p y)) ⊎ OneGroup gs x y → (OneGroup gs x y → OneGroup (admit n clash gs e) x y) → OneGroup (cond b (p ∷ admit n clash gs e) (with p e ∷ gs)) x y
      go true (inl q) r = inl q
      go true (inr q) r = inr (r q)
      go false (inl q) r = inl (with_old p e x q.0, with_old p e y q.1)
      go false (inr q) r = inr q

  pub over_one : (es : List ℕ) (gs : List (ℕ → Bool)) (x y : ℕ) → OneGroup gs x y → OneGroup (over (admit n clash) gs es) x y
  over_one [] gs x y h = h
  over_one (e ∷ es) gs x y h = over_one es (admit n clash gs e) x y (admit_one gs e x y h)

-- ---- the place of an entry's group

-- its group is there
pub place_group : (gs : List (ℕ → Bool)) (x : ℕ) → T (has gs x) → OneGroup gs x x
place_group [] x h = absurd h
place_group (p ∷ gs) x h = ⊎_elim (λ a. inl (a, a)) (λ a. inr (place_group gs x a)) (or_cases (p x) (has gs x) h)
