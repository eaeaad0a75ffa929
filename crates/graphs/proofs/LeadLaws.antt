-- Laws of the pair that leads: going through the pairs from the first on, and changing only for strictly more, ends at the first greatest.
-- Assumes nothing.
use mathlib.Core.Path.{◌≡◌, refl, sym, ap, ◌∙◌, subst}
use mathlib.Core.Bool.{Bool, true, false, cond}
use mathlib.Core.List.{List, [], ◌∷◌, ◌++◌, map}
use mathlib.Core.Option.{Option, none, some}
use mathlib.Core.Logic.{inl, inr}
use Prim.Native.Nat.{ℕ, zero, suc, ◌≤◌, ◌<◌}
use native.Mathlib.Nat.{not-suc-le-zero}
use native.Mathlib.Decide.{ℕ_discrete, dec_lt}
use native.Mathlib.Omega.{arith}
use lib.Dec.{T, leb, ltb}
use borrow.Author.Tests.{leb-true, leb-false, le-leb, lt-leb, lt-ltb, le-ltb}
use Rattle.sets.specs.Lists.{In, table, keep, members, put, select, better, greatest, cross, over}
use Rattle.sets.proofs.ListLaws.{table_suc, over_append}
use Rattle.sets.proofs.MemberLaws.{In-members}
use Rattle.graphs.specs.Acts.{lead}
use Rattle.graphs.specs.declared.Lead.{Lead}

-- who changes nothing may be left out
pub over_narrow : {B : Type 0} (f : B → ℕ → B) (S : B → Type 0) (p q : ℕ → Bool) → ((v : ℕ) → T (q v) → T (p v)) → ((s : B) (v : ℕ) → S s → S (f s v))
    → ((s : B) (v : ℕ) → S s → T (p v) → ¬ T (q v) → f s v ≡ s) → (n : ℕ) (s : B) → S s
    → (over f s (members q n) ≡ over f s (members p n)) × S (over f s (members p n))
over_narrow f S p q into stays idle zero s h = (refl, h)
over_narrow f S p q into stays idle (suc n) s h =
    let r = over_narrow f S p q into stays idle n s h in
    let e = go (p n) (q n) (into n) (λ t. idle t n) (over f s (members p n)) r.1 in (
      over_append f s (members q n) (keep (q n) n) ∙ ap (λ t. over f t (keep (q n) n)) r.0 ∙ e.0 ∙ sym (over_append f s (members p n) (keep (p n) n)),
      subst S (sym (over_append f s (members p n) (keep (p n) n))) e.1,
    )
  where
    go : (a b : Bool) → (T b → T a) → ((t : _) → S t → T a → ¬ T b → f t n ≡ t) → (t : _) → S t → (over f t (keep b n) ≡ over f t (keep a n)) × S (over f t (keep a n))
    go true true g i t h = (refl, stays t n h)
    go true false g i t h = (sym (i t h tt (λ z. z)), stays t n h)
    go false true g i t h = absurd (g tt)
    go false false g i t h = (refl, h)

module _ {A : Type 0} (f : A → ℕ) where
  -- the better of two, the first where they are alike
  abbrev pub both : Option A → Option A → Option A
  both none o = o
  both (some x) o = better f x o

  -- what leads after x
  abbrev pub after : Option A → A → Option A
  after o x = both o (some x)

  both_none : (o : Option A) → both o none ≡ o
  both_none none = refl
  both_none (some x) = refl

  both_assoc : (a b c : Option A) → both (both a b) c ≡ both a (both b c)
  both_assoc none b c = refl
  both_assoc (some x) none c = refl
  both_assoc (some x) (some y) none = both_none (better f x (some y))
  both_assoc (some x) (some y) (some z) = go (leb (f y) (f x)) (leb (f z) (f y)) refl refl
    where
      go : (p q : Bool) → leb (f y) (f x) ≡ p → leb (f z) (f y) ≡ q → both (cond p (some x) (some y)) (some z) ≡ better f x (cond q (some y) (some z))
      go true true a b =
          let l : f z ≤ f x = omega (arith, leb-true (f y) (f x) a, leb-true (f z) (f y) b) in
          ap (λ (t : Bool). cond t (some x) (some z)) (le-leb (f z) (f x) l) ∙ sym (ap (λ (t : Bool). cond t (some x) (some y)) a)
      go true false a b = refl
      go false true a b = ap (λ (t : Bool). cond t (some y) (some z)) b ∙ sym (ap (λ (t : Bool). cond t (some x) (some y)) a)
      go false false a b =
          let l : f x < f z = omega (arith, leb-false (f y) (f x) a, leb-false (f z) (f y) b) in
          ap (λ (t : Bool). cond t (some y) (some z)) b ∙ sym (ap (λ (t : Bool). cond t (some x) (some z)) (lt-leb (f z) (f x) l))

  pub over_greatest : (o : Option A) (l : List A) → over after o l ≡ both o (greatest f l)
  over_greatest o [] = sym (both_none o)
  over_greatest o (x ∷ l) = over_greatest (after o x) l ∙ both_assoc o (some x) (greatest f l)

-- ---- row by row

select_append : {A : Type 0} (p : A → Bool) (k l : List A) → select p (k ++ l) ≡ select p k ++ select p l
select_append p [] l = refl
select_append p (x ∷ k) l = go (p x) (select_append p k l)
  where
    go : (b : Bool) → select p (k ++ l) ≡ select p k ++ select p l → put b x (select p (k ++ l)) ≡ put b x (select p k) ++ select p l
    go true e = ap (λ t. x ∷ t) e
    go false e = e

-- x with each of l
abbrev pub pairs : ℕ → List ℕ → List (ℕ × ℕ)
pairs x l = map {B = ℕ × ℕ} (λ y. (x, y)) l

module _ (x : ℕ) where
  pairs_append : (k l : List ℕ) → pairs x (k ++ l) ≡ pairs x k ++ pairs x l
  pairs_append [] l = refl
  pairs_append (y ∷ k) l = ap (λ t. (x, y) ∷ t) (pairs_append k l)

  -- the pairs of a row that pass
  select_row : (p : ℕ × ℕ → Bool) (n : ℕ) → select p (table (λ y. (x, y)) n) ≡ pairs x (members (λ y. p (x, y)) n)
  select_row p zero = refl
  select_row p (suc n) =
      ap (select p) (table_suc (λ y. (x, y)) n) ∙ select_append p (table (λ y. (x, y)) n) ((x, n) ∷ [])
      ∙ ap (λ t. t ++ select p ((x, n) ∷ [])) (select_row p n)
      ∙ ap (λ t. pairs x (members (λ y. p (x, y)) n) ++ t) (one (p (x, n)))
      ∙ sym (pairs_append (members (λ y. p (x, y)) n) (keep (p (x, n)) n))
    where
      one : (b : Bool) → put {A = ℕ × ℕ} b (x, n) [] ≡ pairs x (keep b n)
      one true = refl
      one false = refl

-- what leads after the row of x
abbrev pub row_lead : (ℕ × ℕ → ℕ) → (ℕ × ℕ → Bool) → ℕ → Option (ℕ × ℕ) → ℕ → Option (ℕ × ℕ)
row_lead f p n o x = over (after f) o (pairs x (members (λ y. p (x, y)) n))

-- all rows, where those that fail the test q have no pair
pub cross_lead : (f : ℕ × ℕ → ℕ) (p : ℕ × ℕ → Bool) (q : ℕ → Bool) (n k : ℕ) → ((x : ℕ) → ¬ T (q x) → members (λ y. p (x, y)) n ≡ [])
    → (o : Option (ℕ × ℕ)) → over (after f) o (select p (cross k n)) ≡ over (row_lead f p n) o (members q k)
cross_lead f p q n zero h o = refl
cross_lead f p q n (suc k) h o =
    ap (over (after f) o) (select_append p (cross k n) (table (λ y. (k, y)) n))
    ∙ over_append (after f) o (select p (cross k n)) (select p (table (λ y. (k, y)) n))
    ∙ ap (λ s. over (after f) s (select p (table (λ y. (k, y)) n))) (cross_lead f p q n k h o)
    ∙ ap (over (after f) (over (row_lead f p n) o (members q k))) (select_row k p n)
    ∙ go (q k) (h k) ∙ sym (over_append (row_lead f p n) o (members q k) (keep (q k) k))
  where
    go : (b : Bool) → (¬ T b → members (λ y. p (k, y)) n ≡ [])
        → row_lead f p n (over (row_lead f p n) o (members q k)) k ≡ over (row_lead f p n) (over (row_lead f p n) o (members q k)) (keep b k)
    go true e = refl
    go false e = ap (λ l. over (after f) (over (row_lead f p n) o (members q k)) (pairs k l)) (e (λ t. t))

-- ---- what the code holds of the pair that leads

abbrev pub Leads : (ℕ × ℕ → ℕ) → Lead → Option (ℕ × ℕ) → Type 0
Leads f l none = l.size ≡ 0
Leads f l (some p) = (l.size ≡ suc (f p)) × (l.u ≡ p.0) × (l.v ≡ p.1)

lead_after : (f : ℕ × ℕ → ℕ) (s : ℕ → ℕ) (u v : ℕ) (l : Lead) (o : Option (ℕ × ℕ)) → s v ≡ f (u, v) → Leads f l o → Leads f (lead s u l v) (after f o (u, v))
lead_after f s u v l none e h =
    subst (λ (b : Bool). Leads f (cond b (record { size = suc (s v); u = u; v = v }) l) (some (u, v))) (sym (lt-ltb l.size (suc (s v)) (omega arith))) (ap suc e, refl, refl)
lead_after f s u v l (some p) e h = go (leb (f (u, v)) (f p)) refl
  where
    go : (b : Bool) → leb (f (u, v)) (f p) ≡ b → Leads f (cond (ltb l.size (suc (s v))) (record { size = suc (s v); u = u; v = v }) l) (cond b (some p) (some (u, v)))
    go true a =
        subst (λ (b : Bool). Leads f (cond b (record { size = suc (s v); u = u; v = v }) l) (some p))
        (sym (le-ltb l.size (suc (s v)) (omega (arith, h.0, e, leb-true (f (u, v)) (f p) a)))) h
    go false a =
        subst (λ (b : Bool). Leads f (cond b (record { size = suc (s v); u = u; v = v }) l) (some (u, v)))
        (sym (lt-ltb l.size (suc (s v)) (omega (arith, h.0, e, leb-false (f (u, v)) (f p) a)))) (ap suc e, refl, refl)

pub leads_over : (f : ℕ × ℕ → ℕ) (s : ℕ → ℕ) (u : ℕ) (vs : List ℕ) → ((v : ℕ) → In v vs → s v ≡ f (u, v)) → (l : Lead) (o : Option (ℕ × ℕ)) → Leads f l o
    → Leads f (over (lead s u) l vs) (over (after f) o (pairs u vs))
leads_over f s u [] e l o h = h
leads_over f s u (v ∷ vs) e l o h = leads_over f s u vs (λ w i. e w (inr i)) (lead s u l v) (after f o (u, v)) (lead_after f s u v l o (e v (inl refl)) h)

-- one more than what the pair that leads has; 0 where there is none
abbrev pub reach : (ℕ × ℕ → ℕ) → Option (ℕ × ℕ) → ℕ
reach f none = zero
reach f (some p) = suc (f p)

pub leads_reach : (f : ℕ × ℕ → ℕ) (l : Lead) (o : Option (ℕ × ℕ)) → Leads f l o → l.size ≡ reach f o
leads_reach f l none h = h
leads_reach f l (some p) h = h.0

-- a pair that has not more than what leads
pub after_stays : (f : ℕ × ℕ → ℕ) (p : ℕ × ℕ) (o : Option (ℕ × ℕ)) → f p < reach f o → after f o p ≡ o
after_stays f p none c = absurd (not-suc-le-zero c)
after_stays f p (some q) c = ap (λ (t : Bool). cond t (some q) (some p)) (le-leb (f p) (f q) (omega arith))

module _ (f : ℕ × ℕ → ℕ) (x : ℕ) where
  after_grows : (o : Option (ℕ × ℕ)) (p : ℕ × ℕ) → reach f o ≤ reach f (after f o p)
  after_grows none p = omega arith
  after_grows (some q) p = go (leb (f p) (f q)) refl
    where
      go : (b : Bool) → leb (f p) (f q) ≡ b → suc (f q) ≤ reach f (cond b (some q) (some p))
      go true e = omega arith
      go false e = omega (arith, leb-false (f p) (f q) e)

  pub row_grows : (vs : List ℕ) (o : Option (ℕ × ℕ)) → reach f o ≤ reach f (over (after f) o (pairs x vs))
  row_grows [] o = omega arith
  row_grows (y ∷ vs) o = let a = after_grows o (x, y) in let b = row_grows vs (after f o (x, y)) in omega arith

  -- a row none of whose pairs has more than what leads
  pub row_stays : (vs : List ℕ) (o : Option (ℕ × ℕ)) → ((y : ℕ) → In y vs → f (x, y) < reach f o) → over (after f) o (pairs x vs) ≡ o
  row_stays [] o h = refl
  row_stays (y ∷ vs) o h = ap (λ k. over (after f) k (pairs x vs)) (after_stays f (x, y) o (h y (inl refl))) ∙ row_stays vs o (λ z i. h z (inr i))

-- ---- whom the code may pass over, and who leads in the end

module _ (f : ℕ → ℕ) (u : ℕ) where
  -- v has enough to lead, or too little
  pub lead_more : (l : Lead) (v : ℕ) → l.size ≤ f v → lead f u l v ≡ record { size = suc (f v); u = u; v = v }
  lead_more l v b = ap (λ (t : Bool). cond t (record { size = suc (f v); u = u; v = v }) l) (lt-ltb l.size (suc (f v)) (omega arith))

  pub lead_less : (l : Lead) (v : ℕ) → f v < l.size → lead f u l v ≡ l
  lead_less l v b = ap (λ (t : Bool). cond t (record { size = suc (f v); u = u; v = v }) l) (le-ltb l.size (suc (f v)) b)

  pub lead_grows : (l : Lead) (v k : ℕ) → k ≤ l.size → k ≤ (lead f u l v).size
  lead_grows l v k b = at (dec_lt (f v) l.size)
    where
      at : Dec (f v < l.size) → k ≤ (lead f u l v).size
      at (yes c) = rw (lead_less l v c) b
      at (no c) = rw (lead_more l v (omega arith)) (omega arith)

  -- none of vs has more than what leads already
  pub lead_stays : (vs : List ℕ) (l : Lead) → ((v : ℕ) → In v vs → f v < l.size) → over (lead f u) l vs ≡ l
  lead_stays [] l h = refl
  lead_stays (v ∷ vs) l h = ap (λ (k : Lead). over (lead f u) k vs) (lead_less l v (h v (inl refl))) ∙ lead_stays vs l (λ w i. h w (inr i))

  -- where each of vs has less than k, what leads does not pass k
  lead_below : (vs : List ℕ) (l : Lead) (k : ℕ) → ((v : ℕ) → In v vs → f v < k) → l.size ≤ k → (over (lead f u) l vs).size ≤ k
  lead_below [] l k h b = b
  lead_below (v ∷ vs) l k h b = lead_below vs (lead f u l v) k (λ w i. h w (inr i)) (at (dec_lt (f v) l.size))
    where
      at : Dec (f v < l.size) → (lead f u l v).size ≤ k
      at (yes c) = rw (lead_less l v c) b
      at (no c) = rw (lead_more l v (omega arith)) (h v (inl refl))

  -- the first who has most leads, where it has not less than what leads before
  pub lead_first : (p : ℕ → Bool) (w : ℕ) → T (p w) → ((j : ℕ) → j < w → T (p j) → f j < f w) → ((j : ℕ) → T (p j) → f j ≤ f w)
      → (n : ℕ) → w < n → (l : Lead) → l.size ≤ f w → over (lead f u) l (members p n) ≡ record { size = suc (f w); u = u; v = w }
  lead_first p w t less most zero a l b = absurd (not-suc-le-zero a)
  lead_first p w t less most (suc n) a l b =
      over_append (lead f u) l (members p n) (keep (p n) n) ∙ go (ℕ_discrete w n) (λ c. lead_first p w t less most n c l b)
    where
      none : (b : Bool) → (T b → f n ≤ f w) → over (lead f u) (record { size = suc (f w); u = u; v = w }) (keep b n) ≡ record { size = suc (f w); u = u; v = w }
      none true c = lead_less (record { size = suc (f w); u = u; v = w }) n (omega (arith, c tt))
      none false c = refl

      one : (b : Bool) → T b → over (lead f u) (over (lead f u) l (members p w)) (keep b w) ≡ record { size = suc (f w); u = u; v = w }
      one true c =
          lead_more (over (lead f u) l (members p w)) w (lead_below (members p w) l (f w) (λ j i. let q = In-members p w j i in less j q.0 q.1) b)
      one false c = absurd c

      go : Dec (w ≡ n) → (w < n → over (lead f u) l (members p n) ≡ record { size = suc (f w); u = u; v = w })
          → over (lead f u) (over (lead f u) l (members p n)) (keep (p n) n) ≡ record { size = suc (f w); u = u; v = w }
      go (yes e) r = ap (λ (k : ℕ). over (lead f u) (over (lead f u) l (members p k)) (keep (p k) k)) (sym e) ∙ one (p w) t
      go (no d) r = ap (λ (k : Lead). over (lead f u) k (keep (p n) n)) (r (omega arith)) ∙ none (p n) (most n)
