-- Laws of tests over a list, of a list's elements as a test, of members before and after one,
-- and of the first greatest element.
-- Assumes nothing.
use mathlib.Core.Path.{◌≡◌, refl, sym, ap, ap₂, ◌∙◌, subst}
use mathlib.Core.Logic.{◌⊎◌, inl, inr}
use mathlib.Core.Bool.{Bool, true, false, ◌&&◌, ◌||◌, cond}
use mathlib.Core.List.{List, [], ◌∷◌, ◌++◌, map, append_assoc}
use mathlib.Core.Option.{Option, none, some, get_or}
use Prim.Native.Nat.{ℕ, zero, suc, ◌≤◌, ◌<◌}
use native.Mathlib.Nat.{not-suc-le-zero, le_refl, le_trans, le_antisymm}
use native.Mathlib.Decide.{ℕ_discrete, dec_lt}
use native.Mathlib.Omega.{arith}
use lib.Dec.{T, eqb, ltb, leb, eqb→eq, eqb_refl, lt→ltb, ltb→lt}
use lib.ListN.{length}
use borrow.Author.Tests.{lt-ltb, le-ltb, le-leb, lt-leb}
use Rattle.sets.specs.Lists.{In, NoDup, members, keep, every, some?, better, greatest, over}
use Rattle.sets.proofs.TestLaws.{and_l, and_r, and_t, and_true, or_l, or_r, or_cases, or_assoc, T→true}
use Rattle.sets.proofs.ListLaws.{no_dup_le}
use Rattle.sets.proofs.MemberLaws.{members_none}
use Rattle.cliques.specs.Clique.{is_in}
use Rattle.cliques.specs.Growth.{after}

-- ---- tests over a list

module _ {A : Type 0} where
  pub every_get : (p : A → Bool) (l : List A) → T (every p l) → (x : A) → In x l → T (p x)
  every_get p [] t x i = absurd i
  every_get p (y ∷ l) t x (inl e) = subst (λ z. T (p z)) (sym e) (and_l (p y) (every p l) t)
  every_get p (y ∷ l) t x (inr i) = every_get p l (and_r (p y) (every p l) t) x i

  pub every_make : (p : A → Bool) (l : List A) → ((x : A) → In x l → T (p x)) → T (every p l)
  every_make p [] f = tt
  every_make p (y ∷ l) f = and_t (p y) (every p l) (f y (inl refl)) (every_make p l (λ x i. f x (inr i)))

  pub some_get : (p : A → Bool) (l : List A) → T (some? p l) → (x : A) × In x l × T (p x)
  some_get p [] t = absurd t
  some_get p (y ∷ l) t = go (or_cases (p y) (some? p l) t) (some_get p l)
    where
      go : T (p y) ⊎ T (some? p l) → (T (some? p l) → (x : A) × In x l × T (p x)) → (x : A) × In x (y ∷ l) × T (p x)
      go (inl h) r = (y, inl refl, h)
      go (inr h) r = let z = r h in (z.0, inr z.1, z.2)

  pub some_make : (p : A → Bool) (l : List A) (x : A) → In x l → T (p x) → T (some? p l)
  some_make p [] x i t = absurd i
  some_make p (y ∷ l) x (inl e) t = or_l (p y) (some? p l) (subst (λ z. T (p z)) e t)
  some_make p (y ∷ l) x (inr i) t = or_r (p y) (some? p l) (some_make p l x i t)

  -- two tests that agree on a list's elements
  pub some_agree : (p q : A → Bool) (l : List A) → ((x : A) → In x l → p x ≡ q x) → some? p l ≡ some? q l
  some_agree p q [] h = refl
  some_agree p q (y ∷ l) h = ap₂ (λ (a b : Bool). a || b) (h y (inl refl)) (some_agree p q l (λ x i. h x (inr i)))

  pub some_append : (p : A → Bool) (k l : List A) → some? p (k ++ l) ≡ (some? p k || some? p l)
  some_append p [] l = refl
  some_append p (x ∷ k) l = ap (λ (b : Bool). p x || b) (some_append p k l) ∙ or_assoc (p x) (some? p k) (some? p l)

  pub some_map : {B : Type 0} (p : A → Bool) (f : B → A) (l : List B) → some? p (map f l) ≡ some? (λ x. p (f x)) l
  some_map p f [] = refl
  some_map p f (x ∷ l) = ap (λ (b : Bool). p (f x) || b) (some_map p f l)

  pub map_append : {B : Type 0} (f : B → A) (k l : List B) → map f (k ++ l) ≡ map f k ++ map f l
  map_append f [] l = refl
  map_append f (x ∷ k) l = ap (λ (m : List A). f x ∷ m) (map_append f k l)

  pub map_same : (f : A → A) (l : List A) → ((x : A) → f x ≡ x) → map f l ≡ l
  map_same f [] h = refl
  map_same f (x ∷ l) h = ap₂ (λ (a : A) (k : List A). a ∷ k) (h x) (map_same f l h)

  pub map_map : {B C : Type 0} (f : B → A) (g : C → B) (l : List C) → map f (map g l) ≡ map (λ x. f (g x)) l
  map_map f g [] = refl
  map_map f g (x ∷ l) = ap (λ (m : List A). f (g x) ∷ m) (map_map f g l)

-- ---- a list's elements as a test

pub in_of : (x : ℕ) (c : List ℕ) → T (is_in x c) → In x c
in_of x c t = let r = some_get (eqb x) c t in subst (λ z. In z c) (sym (eqb→eq x r.0 r.2)) r.1

pub of_in : (x : ℕ) (c : List ℕ) → In x c → T (is_in x c)
of_in x c i = some_make (eqb x) c x i (eqb_refl x)

-- ---- members before and after one of them

pub members_at : (p : ℕ → Bool) (s n : ℕ) → s < n → T (p s) → members p n ≡ members p s ++ s ∷ members (after s p) n
members_at p s zero a t = absurd (not-suc-le-zero a)
members_at p s (suc n) a t = go (ℕ_discrete s n) (members_at p s n)
  where
    one : (b : Bool) (m : ℕ) → T b → keep b m ≡ m ∷ []
    one true m t = refl
    one false m t = absurd t

    go : Dec (s ≡ n) → (s < n → T (p s) → members p n ≡ members p s ++ s ∷ members (after s p) n)
        → members p n ++ keep (p n) n ≡ members p s ++ s ∷ members (after s p) (suc n)
    go (yes e) r =
        ap (λ (m : ℕ). members p m ++ keep (p m) m) (sym e) ∙ ap (λ (l : List ℕ). members p s ++ l) (one (p s) s t)
        ∙ ap (λ (l : List ℕ). members p s ++ s ∷ l)
        (sym (members_none (after s p) (suc n) (λ j b u. let c = ltb→lt s j (and_r (p j) (ltb s j) u) in let z : ⊥ = omega arith in z)))
    go (no q) r =
        let b : s < n = omega arith in
        ap (λ (l : List ℕ). l ++ keep (p n) n) (r b t) ∙ append_assoc (members p s) (s ∷ members (after s p) n) (keep (p n) n)
        ∙ ap (λ (c : Bool). members p s ++ s ∷ (members (after s p) n ++ keep c n))
        (sym (ap (λ (c : Bool). p n && c) (T→true (ltb s n) (lt→ltb s n b)) ∙ and_true (p n)))

-- a set of numbers that a list has, each once
pub length_same : (k l : List ℕ) → NoDup k → NoDup l → ((x : ℕ) → In x k → In x l) → ((x : ℕ) → In x l → In x k) → length k ≡ length l
length_same k l a b f g = le_antisymm (no_dup_le k l a f) (no_dup_le l k b g)

-- ---- the first greatest, from the left

abbrev pub larger : List ℕ → List ℕ → List ℕ
larger b c = cond (ltb (length b) (length c)) c b

better_larger : (b c : List ℕ) (o : Option (List ℕ)) → better length (larger b c) o ≡ better length b (better length c o)
better_larger b c none = go (dec_lt (length b) (length c))
  where
    go : Dec (length b < length c) → some (larger b c) ≡ cond (leb (length c) (length b)) (some b) (some c)
    go (yes l) = rw (lt-ltb (length b) (length c) l, lt-leb (length c) (length b) l) refl
    go (no q) = rw (le-ltb (length b) (length c) (omega arith), le-leb (length c) (length b) (omega arith)) refl
better_larger b c (some y) = go (dec_lt (length b) (length c)) (dec_lt (length c) (length y))
  where
    go : Dec (length b < length c) → Dec (length c < length y)
        → better length (larger b c) (some y) ≡ better length b (cond (leb (length y) (length c)) (some c) (some y))
    go (yes l) (yes m) =
        rw (lt-ltb (length b) (length c) l, lt-leb (length y) (length c) m, lt-leb (length y) (length b) (omega arith)) refl
    go (yes l) (no m) =
        rw (lt-ltb (length b) (length c) l, le-leb (length y) (length c) (omega arith), lt-leb (length c) (length b) l) refl
    go (no l) (yes m) = rw (le-ltb (length b) (length c) (omega arith), lt-leb (length y) (length c) m) refl
    go (no l) (no m) =
        rw (
          le-ltb (length b) (length c) (omega arith),
          le-leb (length y) (length c) (omega arith),
          le-leb (length c) (length b) (omega arith),
          le-leb (length y) (length b) (omega arith),
        ) refl

pub larger_greatest : (b : List ℕ) (cs : List (List ℕ)) → over larger b cs ≡ get_or (greatest length (b ∷ cs)) []
larger_greatest b [] = refl
larger_greatest b (c ∷ cs) = larger_greatest (larger b c) cs ∙ ap (λ (o : Option (List ℕ)). get_or o []) (better_larger b c (greatest length cs))

pub larger_none : (cs : List (List ℕ)) → over larger [] cs ≡ get_or (greatest length cs) []
larger_none cs = larger_greatest [] cs ∙ go (greatest length cs)
  where
    go : (o : Option (List ℕ)) → get_or (better length [] o) [] ≡ get_or o []
    go none = refl
    go (some []) = refl
    go (some (x ∷ l)) = rw (lt-leb (length (x ∷ l)) 0 (omega arith)) refl

pub larger_le : (b : List ℕ) (cs : List (List ℕ)) → length b ≤ length (over larger b cs)
larger_le b [] = le_refl (length b)
larger_le b (c ∷ cs) = le_trans (go (dec_lt (length b) (length c))) (larger_le (larger b c) cs)
  where
    go : Dec (length b < length c) → length b ≤ length (larger b c)
    go (yes l) = rw (lt-ltb (length b) (length c) l) (omega arith)
    go (no q) = rw (le-ltb (length b) (length c) (omega arith)) (le_refl (length b))
