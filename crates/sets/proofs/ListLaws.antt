-- Laws of lists: counts, folds, tables, elements, lists with no element twice, selections, the greatest. Assumes nothing.
use mathlib.Core.Path.{◌≡◌, refl, sym, ap, ◌∙◌, subst}
use mathlib.Core.Logic.{◌⊎◌, inl, inr, ◌≢◌}
use mathlib.Core.Bool.{Bool, true, false, cond}
use mathlib.Core.List.{List, [], ◌∷◌, ◌++◌, map}
use mathlib.Core.Option.{Option, none, some, none-ne-some, some-ne-none, some-injective}
use Prim.Native.Nat.{ℕ, zero, suc, ◌+◌, ◌≤◌, ◌<◌, zero-le, suc-le-suc}
use native.Mathlib.Nat.{le_of_suc-le-suc, not-suc-le-zero, le_refl, le_trans}
use native.Mathlib.Decide.{dec_le}
use native.Mathlib.Omega.{arith}
use lib.Dec.{T, leb}
use lib.ListN.{length, get_or}
use Rattle.sets.specs.Lists.{bit, In, NoDup, count, every, table, put, select, better, greatest, over}
use Rattle.sets.proofs.TestLaws.{and_l, and_r, bit_one, bit_zero}

module _ {A : Type 0} where
  -- ---- counts

  pub count_iff : (p q : A → Bool) (l : List A) → ((x : A) → bit (p x) ≡ bit (q x)) → count p l ≡ count q l
  count_iff p q [] h = refl
  count_iff p q (x ∷ l) h = omega (arith, h x, count_iff p q l h)

  pub count_split : (p q r : A → Bool) (l : List A) → ((x : A) → bit (p x) ≡ bit (q x) + bit (r x)) → count p l ≡ count q l + count r l
  count_split p q r [] h = refl
  count_split p q r (x ∷ l) h = omega (arith, h x, count_split p q r l h)

  pub count_append : (p : A → Bool) (k l : List A) → count p (k ++ l) ≡ count p k + count p l
  count_append p [] l = omega arith
  count_append p (x ∷ k) l = omega (arith, count_append p k l)

  -- a test that passes less often, and fails at one place where the other passes
  pub count_le : (p q : A → Bool) (l : List A) → ((x : A) → T (p x) → T (q x)) → count p l ≤ count q l
  count_le p q [] h = zero-le
  count_le p q (x ∷ l) h = omega (arith, bit_le (p x) (q x) (h x), count_le p q l h)
    where
      bit_le : (a b : Bool) → (T a → T b) → bit a ≤ bit b
      bit_le true true f = omega arith
      bit_le true false f = absurd (f tt)
      bit_le false b f = zero-le

  pub count_lt : (p q : A → Bool) (l : List A) → ((x : A) → T (p x) → T (q x)) → (y : A) → In y l → ¬ T (p y) → T (q y) → count p l < count q l
  count_lt p q [] h y i a b = absurd i
  count_lt p q (x ∷ l) h y (inl e) a b =
      omega (arith, bit_zero (p x) (λ t. a (rw e t)), bit_one (q x) (rw e at b), count_le p q l h)
  count_lt p q (x ∷ l) h y (inr i) a b = omega (arith, count_le p q (x ∷ []) h, count_lt p q l h y i a b)

  -- ---- folds

  pub over_append : {B : Type 0} (f : B → A → B) (s : B) (k l : List A) → over f s (k ++ l) ≡ over f (over f s k) l
  over_append f s [] l = refl
  over_append f s (x ∷ k) l = over_append f (f s x) k l

  -- ---- tables

  pub length_table : (f : ℕ → A) (n : ℕ) → length (table f n) ≡ n
  length_table f zero = refl
  length_table f (suc n) = ap suc (length_table (λ i. f (suc i)) n)

  pub get_d_table : (f : ℕ → A) (n : ℕ) (d : A) (i : ℕ) → i < n → get_or (table f n) i d ≡ f i
  get_d_table f zero d i h = absurd (not-suc-le-zero h)
  get_d_table f (suc n) d zero h = refl
  get_d_table f (suc n) d (suc i) h = get_d_table (λ i. f (suc i)) n d i (le_of_suc-le-suc h)

  pub In-table : (f : ℕ → A) (n : ℕ) (i : ℕ) → i < n → In (f i) (table f n)
  In-table f zero i h = absurd (not-suc-le-zero h)
  In-table f (suc n) zero h = inl refl
  In-table f (suc n) (suc i) h = inr (In-table (λ i. f (suc i)) n i (le_of_suc-le-suc h))

  pub table-In : (f : ℕ → A) (n : ℕ) (x : A) → In x (table f n) → (i : ℕ) × (i < n) × (x ≡ f i)
  table-In f zero x h = absurd h
  table-In f (suc n) x (inl e) = (zero, suc-le-suc zero-le, e)
  table-In f (suc n) x (inr h) = let t = table-In (λ i. f (suc i)) n x h in (suc t.0, suc-le-suc t.1, t.2)

  -- ---- lists with no element twice

  pub In-append_l : (x : A) (k l : List A) → In x k → In x (k ++ l)
  In-append_l x [] l h = absurd h
  In-append_l x (y ∷ k) l (inl e) = inl e
  In-append_l x (y ∷ k) l (inr h) = inr (In-append_l x k l h)

  pub In-append_r : (x : A) (k l : List A) → In x l → In x (k ++ l)
  In-append_r x [] l h = h
  In-append_r x (y ∷ k) l h = inr (In-append_r x k l h)

  pub In-append : (x : A) (k l : List A) → In x (k ++ l) → In x k ⊎ In x l
  In-append x [] l h = inr h
  In-append x (y ∷ k) l (inl e) = inl (inl e)
  In-append x (y ∷ k) l (inr h) = elim (In-append x k l h) [ inl a ↦ inl (inr a) | inr b ↦ inr b ]

  -- l without the place of x
  drop1 : (x : A) (l : List A) → In x l → List A
  drop1 x [] h = []
  drop1 x (y ∷ l) (inl e) = l
  drop1 x (y ∷ l) (inr h) = y ∷ drop1 x l h

  length_drop1 : (x : A) (l : List A) (h : In x l) → length l ≡ suc (length (drop1 x l h))
  unfolding drop1
  length_drop1 x [] h = absurd h
  length_drop1 x (y ∷ l) (inl e) = refl
  length_drop1 x (y ∷ l) (inr h) = ap suc (length_drop1 x l h)

  In-drop1 : (x : A) (l : List A) (h : In x l) (z : A) → z ≢ x → In z l → In z (drop1 x l h)
  unfolding drop1
  In-drop1 x [] h z q i = absurd i
  In-drop1 x (y ∷ l) (inl e) z q (inl f) = absurd (q (f ∙ sym e))
  In-drop1 x (y ∷ l) (inl e) z q (inr i) = i
  In-drop1 x (y ∷ l) (inr h) z q (inl f) = inl f
  In-drop1 x (y ∷ l) (inr h) z q (inr i) = inr (In-drop1 x l h z q i)

  -- the pigeon-hole: a list with no element twice is no longer than one that has all its elements
  pub no_dup_le : (k l : List A) → NoDup k → ((x : A) → In x k → In x l) → length k ≤ length l
  no_dup_le [] l d s = zero-le
  no_dup_le (x ∷ k) l d s =
      let h = s x (inl refl) in
      let r = no_dup_le k (drop1 x l h) d.1 (λ z i. In-drop1 x l h z (λ e. d.0 (subst (λ w. In w k) e i)) (s z (inr i))) in
      omega (arith, length_drop1 x l h, r)

module _ {A : Type 0} where
  pub table_suc : (f : ℕ → A) (n : ℕ) → table f (suc n) ≡ table f n ++ f n ∷ []
  table_suc f zero = refl
  table_suc f (suc n) = ap (λ (l : List A). f zero ∷ l) (table_suc (λ i. f (suc i)) n)

module _ {A B : Type 0} where
  pub count_map : (p : B → Bool) (f : A → B) (l : List A) → count p (map f l) ≡ count (λ x. p (f x)) l
  count_map p f [] = refl
  count_map p f (x ∷ l) = ap (λ k. bit (p (f x)) + k) (count_map p f l)

-- ---- no element twice, in joined and mapped lists

pub no_dup_append : {A : Type 0} (k l : List A) → NoDup k → NoDup l → ((x : A) → In x k → In x l → ⊥) → NoDup (k ++ l)
no_dup_append [] l a b f = b
no_dup_append (x ∷ k) l a b f = (
  λ h. elim (In-append x k l h) [ inl i ↦ a.0 i | inr i ↦ f x (inl refl) i ],
  no_dup_append k l a.1 b (λ z i j. f z (inr i) j),
)

pub In-map : {A B : Type 0} (f : A → B) (l : List A) (v : A) → In v l → In (f v) (map f l)
In-map f [] v h = absurd h
In-map f (y ∷ l) v (inl e) = inl (ap f e)
In-map f (y ∷ l) v (inr h) = inr (In-map f l v h)

pub map-In : {A B : Type 0} (f : A → B) (l : List A) (x : B) → In x (map f l) → (v : A) × In v l × (x ≡ f v)
map-In f [] x h = absurd h
map-In f (y ∷ l) x (inl e) = (y, inl refl, e)
map-In f (y ∷ l) x (inr h) = let t = map-In f l x h in (t.0, inr t.1, t.2)

pub no_dup_map : {A B : Type 0} (f : A → B) → ((x y : A) → f x ≡ f y → x ≡ y) → (l : List A) → NoDup l → NoDup (map f l)
no_dup_map f inj [] d = tt
no_dup_map f inj (x ∷ l) d = (
  λ h. let t = map-In f l (f x) h in d.0 (subst (λ z. In z l) (sym (inj x t.0 t.2)) t.1),
  no_dup_map f inj l d.1,
)

-- what `every` says
pub every_get : {A : Type 0} (p : A → Bool) (l : List A) → T (every p l) → (x : A) → In x l → T (p x)
every_get p [] t x i = absurd i
every_get p (y ∷ l) t x (inl e) = subst (λ z. T (p z)) (sym e) (and_l (p y) (every p l) t)
every_get p (y ∷ l) t x (inr i) = every_get p l (and_r (p y) (every p l) t) x i

-- an element at which f is least
pub least_of : {A : Type 0} (f : A → ℕ) (a : A) (l : List A) → (y : A) × In y (a ∷ l) × ((z : A) → In z (a ∷ l) → f y ≤ f z)
least_of f a [] = (a, inl refl, λ z i. elim i [ inl e ↦ subst (λ w. f a ≤ f w) (sym e) (le_refl (f a)) | inr b ↦ absurd b ])
least_of {A} f a (b ∷ l) = go (least_of f b l)
  where
    go : (y : A) × In y (b ∷ l) × ((z : A) → In z (b ∷ l) → f y ≤ f z) → (y : A) × In y (a ∷ b ∷ l) × ((z : A) → In z (a ∷ b ∷ l) → f y ≤ f z)
    go (y, i, h) = by (dec_le (f a) (f y))
      where
        by : Dec (f a ≤ f y) → (y : A) × In y (a ∷ b ∷ l) × ((z : A) → In z (a ∷ b ∷ l) → f y ≤ f z)
        by (yes le) = (a, inl refl, λ z j. elim j [ inl e ↦ subst (λ w. f a ≤ f w) (sym e) (le_refl (f a)) | inr k ↦ le_trans le (h z k) ])
        by (no q) = (y, inr i, λ z j. elim j [ inl e ↦ subst (λ w. f y ≤ f w) (sym e) (omega arith) | inr k ↦ h z k ])

-- ---- selections

module _ {A : Type 0} where
  pub select_passes : (p : A → Bool) (l : List A) (x : A) → In x (select p l) → T (p x)
  select_passes p [] x h = absurd h
  select_passes p (y ∷ l) x h = go (p y) refl h (select_passes p l x)
    where
      go : (b : Bool) → p y ≡ b → In x (put b y (select p l)) → (In x (select p l) → T (p x)) → T (p x)
      go true e (inl q) r = rw (q, e) tt
      go true e (inr i) r = r i
      go false e i r = r i

  pub select_from : (p : A → Bool) (l : List A) (x : A) → In x (select p l) → In x l
  select_from p [] x h = absurd h
  select_from p (y ∷ l) x h = go (p y) h (select_from p l x)
    where
      go : (b : Bool) → In x (put b y (select p l)) → (In x (select p l) → In x l) → In x (y ∷ l)
      go true (inl e) r = inl e
      go true (inr i) r = inr (r i)
      go false i r = inr (r i)

  pub select-In : (p : A → Bool) (l : List A) (x : A) → In x l → T (p x) → In x (select p l)
  select-In p [] x h t = absurd h
  select-In p (y ∷ l) x h t = go (p y) (λ e. subst (λ z. T (p z)) e t) h (λ i. select-In p l x i t)
    where
      go : (b : Bool) → (x ≡ y → T b) → In x (y ∷ l) → (In x l → In x (select p l)) → In x (put b y (select p l))
      go true f (inl e) r = inl e
      go true f (inr i) r = inr (r i)
      go false f (inl e) r = absurd (f e)
      go false f (inr i) r = r i

  pub greatest-In : (f : A → ℕ) (l : List A) (x : A) → greatest f l ≡ some x → In x l
  greatest-In f [] x e = absurd (none-ne-some x e)
  greatest-In f (y ∷ l) x e = go (greatest f l) e (λ z. greatest-In f l z)
    where
      pick : (b : Bool) (z : A) → cond b (some y) (some z) ≡ some x → In z l → In x (y ∷ l)
      pick true z e i = inl (sym (some-injective y x e))
      pick false z e i = inr (subst (λ w. In w l) (some-injective z x e) i)

      go : (o : Option A) → better f y o ≡ some x → ((z : A) → o ≡ some z → In z l) → In x (y ∷ l)
      go none e r = inl (sym (some-injective y x e))
      go (some z) e r = pick (leb (f z) (f y)) z e (r z refl)

  pub greatest_none : (f : A → ℕ) (l : List A) → greatest f l ≡ none → (x : A) → ¬ In x l
  greatest_none f [] e x i = i
  greatest_none f (y ∷ l) e x i = go (greatest f l) e
    where
      pick : (b : Bool) (z : A) → cond b (some y) (some z) ≡ none → ⊥
      pick true z e = some-ne-none y e
      pick false z e = some-ne-none z e

      go : (o : Option A) → better f y o ≡ none → ⊥
      go none e = some-ne-none y e
      go (some z) e = pick (leb (f z) (f y)) z e

-- ---- tests
