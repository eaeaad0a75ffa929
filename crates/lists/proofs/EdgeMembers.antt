-- Which pairs are among the edges of a list, that none is there twice, and how many there can be.
use Prim.Native.Nat.{ℕ, zero, suc, ◌*◌, ◌≤◌, ◌<◌, zero-le, suc-le-suc}
use mathlib.Core.Path.{◌≡◌, sym, ap, subst}
use mathlib.Core.List.{List, [], ◌∷◌}
use mathlib.Core.Bool.{Bool, true, false}
use mathlib.Core.Logic.{inl, inr, ⊎_elim}
use native.Mathlib.Nat.{eq-or-lt_of_le, le_of_suc-le-suc, not-suc-le-zero}
use native.Mathlib.Omega.{arith}
use lib.Dec.{T, ltb, ltb→lt, lt→ltb}
use lib.ListN.{length, length-append}
use Rattle.sets.specs.Lists.{In, NoDup, table, put, select, cross}
use Rattle.sets.proofs.TestLaws.{and_l, and_r, and_t}
use Rattle.sets.proofs.ListLaws.{length_table, In-table, table-In, In-append_l, In-append_r, In-append, no_dup_append, select_passes, select-In}
use Rattle.clashes.specs.Matrix.{matrix}
use Rattle.lists.specs.Edges.{edge_at, edges}

cross-In : (k n a b : ℕ) → In (a, b) (cross k n) → (a < k) × (b < n)
cross-In zero n a b m = absurd m
cross-In (suc k) n a b m =
    ⊎_elim
    (λ p. let r = cross-In k n a b p in (omega (arith, r.0), r.1))
    (λ p. let r = table-In (λ y. (k, y)) n (a, b) p in
    let x : a ≡ k = ap (λ (e : ℕ × ℕ). e.0) r.2 in
    let y : b ≡ r.0 = ap (λ (e : ℕ × ℕ). e.1) r.2 in
    (omega arith, omega (arith, r.1)))
    (In-append (a, b) (cross k n) (table (λ y. (k, y)) n) m)

In-cross : (k n a b : ℕ) → a < k → b < n → In (a, b) (cross k n)
In-cross zero n a b l h = absurd (not-suc-le-zero l)
In-cross (suc k) n a b l h =
    ⊎_elim
    (λ e. In-append_r (a, b) (cross k n) (table (λ y. (k, y)) n) (subst (λ (x : ℕ). In {A = ℕ × ℕ} (x, b) (table (λ y. (k, y)) n)) (sym e) (In-table (λ y. (k, y)) n b h)))
    (λ m. In-append_l (a, b) (cross k n) (table (λ y. (k, y)) n) (In-cross k n a b m h))
    (eq-or-lt_of_le (le_of_suc-le-suc l))

select_from : {A : Type 0} (p : A → Bool) (x : A) (l : List A) → In x (select p l) → In x l
select_from p x [] h = absurd h
select_from p x (e ∷ l) h = go (p e) h (select_from p x l)
  where
    go : (b : Bool) → In x (put b e (select p l)) → (In x (select p l) → In x l) → In x (e ∷ l)
    go true (inl q) r = inl q
    go true (inr q) r = inr (r q)
    go false q r = inr (r q)

-- an edge's ends: the smaller one first, both entries, and they clash
pub record Edged (rows : List ℕ) (a b : ℕ) : Type 0 where
  pub rising : a < b
  pub within : b < length rows
  pub clash : T (matrix rows a b)

pub edges-In : (rows : List ℕ) (a b : ℕ) → In (a, b) (edges rows) → Edged rows a b
unfolding edges
edges-In rows a b m =
    let n = length rows in
    let t = select_passes (edge_at rows) (cross n n) (a, b) m in
    record {
      rising = ltb→lt a b (and_l (ltb a b) (matrix rows a b) t);
      within = (cross-In n n a b (select_from (edge_at rows) (a, b) (cross n n) m)).1;
      clash = and_r (ltb a b) (matrix rows a b) t;
    }

pub In-edges : (rows : List ℕ) (a b : ℕ) → Edged rows a b → In (a, b) (edges rows)
unfolding edges
In-edges rows a b e =
    let n = length rows in
    select-In (edge_at rows) (cross n n) (a, b) (In-cross n n a b (omega (arith, e.rising, e.within)) e.within)
    (and_t (ltb a b) (matrix rows a b) (lt→ltb a b e.rising) e.clash)

-- ---- none twice

select_no_dup : {A : Type 0} (p : A → Bool) (l : List A) → NoDup l → NoDup (select p l)
select_no_dup p [] d = tt
select_no_dup p (x ∷ l) d = go (p x) (select_no_dup p l d.1)
  where
    go : (b : Bool) → NoDup (select p l) → NoDup (put b x (select p l))
    go true r = ((λ m. d.0 (select_from p x l m)), r)
    go false r = r

row_no_dup : (k n : ℕ) (f : ℕ → ℕ) → ((x y : ℕ) → f x ≡ f y → x ≡ y) → NoDup {A = ℕ × ℕ} (table (λ y. (k, f y)) n)
row_no_dup k zero f i = tt
row_no_dup k (suc n) f i = (
  (λ m. let w = table-In {A = ℕ × ℕ} (λ y. (k, f (suc y))) n (k, f 0) m in let e = i 0 (suc w.0) (ap (λ (x : ℕ × ℕ). x.1) w.2) in omega arith),
  row_no_dup k n (λ y. f (suc y)) (λ x y e. let z = i (suc x) (suc y) e in omega arith),
)

cross_no_dup : (k n : ℕ) → NoDup (cross k n)
cross_no_dup zero n = tt
cross_no_dup (suc k) n =
    no_dup_append (cross k n) (table (λ y. (k, y)) n) (cross_no_dup k n) (row_no_dup k n (λ y. y) (λ x y e. e))
    (λ x a b. let w = table-In {A = ℕ × ℕ} (λ y. (k, y)) n x b in omega (arith, (cross-In k n x.0 x.1 a).0, ap (λ (y : ℕ × ℕ). y.0) w.2))

pub edges_no_dup : (rows : List ℕ) → NoDup (edges rows)
unfolding edges
edges_no_dup rows = select_no_dup (edge_at rows) (cross (length rows) (length rows)) (cross_no_dup (length rows) (length rows))

-- ---- at most 64 times 64

select_le : {A : Type 0} (p : A → Bool) (l : List A) → length (select p l) ≤ length l
select_le p [] = zero-le
select_le p (x ∷ l) = go (p x) (select_le p l)
  where
    go : (b : Bool) → length (select p l) ≤ length l → length (put b x (select p l)) ≤ suc (length l)
    go true h = suc-le-suc h
    go false h = omega arith

cross_le : (k n : ℕ) → n ≤ 64 → length (cross k n) ≤ 64 * k
cross_le zero n h = zero-le
cross_le (suc k) n h = let r = cross_le k n h in let t = length_table {A = ℕ × ℕ} (λ y. (k, y)) n in omega (arith, length-append (cross k n) (table (λ y. (k, y)) n))

pub edges_le : (rows : List ℕ) → length rows ≤ 64 → length (edges rows) ≤ 4096
unfolding edges
edges_le rows h = let n = length rows in omega (arith, select_le (edge_at rows) (cross n n), cross_le n n h)
