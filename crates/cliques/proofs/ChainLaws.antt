-- The cliques one by one: the paper adds each vertex to every clique on hand; that is, each clique grows along the vertices after its opener by
-- itself, the next opener is the next vertex that is in no clique yet, and the second time each clique grows along all vertices.
-- Assumes nothing.
use mathlib.Core.Path.{◌≡◌, refl, sym, ap, ap₂, ◌∙◌, subst}
use mathlib.Core.Logic.{◌⊎◌, inl, inr}
use mathlib.Core.Bool.{Bool, true, false, ◌||◌, cond}
use mathlib.Core.List.{List, [], ◌∷◌, ◌++◌, map, append_assoc}
use Prim.Native.Nat.{ℕ}
use lib.Dec.{T}
use Rattle.sets.specs.Lists.{In, NoDup, some?, over}
use Rattle.sets.proofs.TestLaws.{or_false, T→true, T→false}
use Rattle.sets.proofs.ListLaws.{In-append}
use Rattle.sets.proofs.MemberLaws.{members_no_dup}
use Rattle.graphs.specs.Graph.{Graph, live, vertices}
use Rattle.cliques.specs.Clique.{is_in, admits, joined, again, once, cliques}
use Rattle.cliques.specs.Growth.{scan}
use Rattle.cliques.proofs.ListLaws.{some_agree, some_append, some_map, map_append, map_same, map_map}
use Rattle.cliques.proofs.ScanLaws.{joined_from, scan_takes}

module _ (g : Graph) where
  -- the cliques that vertices of vs open, where those that pass the test `taken` are in a clique already
  abbrev pub chain : (ℕ → Bool) → List ℕ → List (List ℕ)
  chain taken [] = []
  chain taken (x ∷ vs) = cond (taken x) (chain taken vs) (scan g (x ∷ []) vs ∷ chain (λ y. taken y || is_in y (scan g (x ∷ []) vs)) vs)

  pub chain_skip : (taken : ℕ → Bool) (ps vs : List ℕ) → ((x : ℕ) → In x ps → T (taken x)) → chain taken (ps ++ vs) ≡ chain taken vs
  chain_skip taken [] vs h = refl
  chain_skip taken (x ∷ ps) vs h = rw (T→true (taken x) (h x (inl refl))) (chain_skip taken ps vs (λ y i. h y (inr i)))

  pub chain_agree : (t u : ℕ → Bool) (vs : List ℕ) → ((x : ℕ) → In x vs → t x ≡ u x) → chain t vs ≡ chain u vs
  chain_agree t u [] h = refl
  chain_agree t u (x ∷ vs) h =
      ap₂ (λ (b : Bool) (l : List (List ℕ)). cond b l (c ∷ chain (λ y. t y || is_in y c) vs)) (h x (inl refl)) (chain_agree t u vs (λ y i. h y (inr i)))
      ∙ ap (λ (l : List (List ℕ)). cond (u x) (chain u vs) (c ∷ l))
      (chain_agree (λ y. t y || is_in y c) (λ y. u y || is_in y c) vs (λ y i. ap (λ (b : Bool). b || is_in y c) (h y (inr i))))
    where
      c : List ℕ
      c = scan g (x ∷ []) vs

  pub chain_none : (taken : ℕ → Bool) (vs : List ℕ) → ((x : ℕ) → In x vs → T (taken x)) → chain taken vs ≡ []
  chain_none taken [] h = refl
  chain_none taken (x ∷ vs) h = rw (T→true (taken x) (h x (inl refl))) (chain_none taken vs (λ y i. h y (inr i)))

  -- s is the first of ps, s and vs that is free
  pub chain_open : (t u : ℕ → Bool) (ps vs : List ℕ) (s : ℕ) → ((x : ℕ) → In x ps → T (t x)) → ¬ T (t s) → ((x : ℕ) → In x ps → T (u x)) → T (u s)
      → ((x : ℕ) → In x vs → u x ≡ (t x || is_in x (scan g (s ∷ []) vs))) → chain t (ps ++ s ∷ vs) ≡ scan g (s ∷ []) vs ∷ chain u (ps ++ s ∷ vs)
  chain_open t u ps vs s a b c d e =
      chain_skip t ps (s ∷ vs) a
      ∙ ap (λ (x : Bool). cond x (chain t vs) (l ∷ chain (λ y. t y || is_in y l) vs)) (T→false (t s) b)
      ∙ ap (λ (k : List (List ℕ)). l ∷ k)
      (sym (chain_skip u ps (s ∷ vs) c ∙ ap (λ (x : Bool). cond x (chain u vs) (l ∷ chain (λ y. u y || is_in y l) vs)) (T→true (u s) d)
      ∙ chain_agree u (λ y. t y || is_in y l) vs e))
    where
      l : List ℕ
      l = scan g (s ∷ []) vs

  -- ---- the second time

  again_map : (cs : List (List ℕ)) (vs : List ℕ) → over (again g) cs vs ≡ map (λ c. scan g c vs) cs
  again_map cs [] = sym (map_same (λ c. c) cs (λ c. refl))
  again_map cs (x ∷ vs) = again_map (again g cs x) vs ∙ map_map (λ c. scan g c vs) (λ c. joined g c x) cs

  -- ---- the first time

  -- the cliques that vs opens while cs are on hand
  abbrev opened : List (List ℕ) → List ℕ → List (List ℕ)
  opened cs [] = []
  opened cs (x ∷ vs) = cond (some? (λ c. admits g c x) cs) (opened (once g cs x) vs) (scan g (x ∷ []) vs ∷ opened (once g cs x) vs)

  once_opened : (cs : List (List ℕ)) (vs : List ℕ) → over (once g) cs vs ≡ map (λ c. scan g c vs) cs ++ opened cs vs
  once_opened cs [] = sym (end (map (λ c. c) cs) ∙ map_same (λ c. c) cs (λ c. refl))
    where
      end : (l : List (List ℕ)) → l ++ [] ≡ l
      end [] = refl
      end (x ∷ l) = ap (λ (k : List (List ℕ)). x ∷ k) (end l)
  once_opened cs (x ∷ vs) =
      once_opened (once g cs x) vs ∙ ap (λ (l : List (List ℕ)). l ++ opened (once g cs x) vs) (map_append grown (again g cs x) (new (some? (λ c. admits g c x) cs)))
      ∙ append_assoc (map grown (again g cs x)) (map grown (new (some? (λ c. admits g c x) cs))) (opened (once g cs x) vs)
      ∙ ap₂ (λ (k l : List (List ℕ)). k ++ l) (map_map grown (λ c. joined g c x) cs) (go (some? (λ c. admits g c x) cs) (opened (once g cs x) vs))
    where
      grown : List ℕ → List ℕ
      grown c = scan g c vs

      new : Bool → List (List ℕ)
      new b = cond b [] ((x ∷ []) ∷ [])

      go : (b : Bool) (l : List (List ℕ)) → map grown (new b) ++ l ≡ cond b l (scan g (x ∷ []) vs ∷ l)
      go true l = refl
      go false l = refl

  In-again : (cs : List (List ℕ)) (x : ℕ) (c : List ℕ) → In c (again g cs x) → (d : List ℕ) × In d cs × (c ≡ joined g d x)
  In-again [] x c i = absurd i
  In-again (d ∷ cs) x c (inl e) = (d, inl refl, e)
  In-again (d ∷ cs) x c (inr i) = let r = In-again cs x c i in (r.0, inr r.1, r.2)

  -- a vertex opens a clique just where none took it
  opened_chain : (cs : List (List ℕ)) (vs : List ℕ) (taken : ℕ → Bool) → NoDup vs → ((c : List ℕ) → In c cs → (x : ℕ) → In x vs → ¬ In x c)
      → ((x : ℕ) → In x vs → taken x ≡ some? (λ c. is_in x (scan g c vs)) cs) → opened cs vs ≡ chain taken vs
  opened_chain cs [] taken d f t = refl
  opened_chain cs (x ∷ vs) taken d f t =
      go (some? (λ c. admits g c x) cs) (λ taken'. opened_chain (once g cs x) vs taken' d.1)
      ∙ ap (λ (b : Bool). cond b (chain taken vs) (scan g (x ∷ []) vs ∷ chain (λ y. taken y || is_in y (scan g (x ∷ []) vs)) vs)) (sym here)
    where
      here : taken x ≡ some? (λ c. admits g c x) cs
      here =
          t x (inl refl)
          ∙ some_agree (λ c. is_in x (scan g c (x ∷ vs))) (λ c. admits g c x) cs (λ c i. scan_takes g c vs x (f c i x (inl refl)) d.0)

      hand : Bool → List (List ℕ)
      hand b = again g cs x ++ cond b [] ((x ∷ []) ∷ [])

      fresh : (b : Bool) (c : List ℕ) → In c (hand b) → (y : ℕ) → In y vs → ¬ In y c
      fresh b c i y j k = split (In-append c (again g cs x) (cond b [] ((x ∷ []) ∷ [])) i)
        where
          x_new : y ≡ x → ⊥
          x_new e = d.0 (subst (λ z. In z vs) e j)

          alone : (b : Bool) → In c (cond b [] ((x ∷ []) ∷ [])) → ⊥
          alone true i = i
          alone false (inl e) = elim (subst (λ l. In y l) e k) [ inl q ↦ x_new q | inr q ↦ q ]
          alone false (inr q) = q

          split : In c (again g cs x) ⊎ In c (cond b [] ((x ∷ []) ∷ [])) → ⊥
          split (inl a) =
              let m = In-again cs x c a in
              elim (joined_from g m.0 x y (subst (λ l. In y l) m.2 k)) [ inl q ↦ x_new q.0 | inr q ↦ f m.0 m.1 y (inr j) q ]
          split (inr a) = alone b a

      old : (y : ℕ) → In y vs → taken y ≡ some? (λ c. is_in y (scan g c vs)) (again g cs x)
      old y j = t y (inr j) ∙ sym (some_map (λ c. is_in y (scan g c vs)) (λ c. joined g c x) cs)

      go : (b : Bool)
          → ((taken' : ℕ → Bool) → ((c : List ℕ) → In c (hand b) → (y : ℕ) → In y vs → ¬ In y c)
          → ((y : ℕ) → In y vs → taken' y ≡ some? (λ c. is_in y (scan g c vs)) (hand b)) → opened (hand b) vs ≡ chain taken' vs)
          → cond b (opened (hand b) vs) (scan g (x ∷ []) vs ∷ opened (hand b) vs)
          ≡ cond b (chain taken vs) (scan g (x ∷ []) vs ∷ chain (λ y. taken y || is_in y (scan g (x ∷ []) vs)) vs)
      go true r =
          r taken (fresh true)
          (λ y j. old y j ∙ sym (or_false (some? (λ c. is_in y (scan g c vs)) (again g cs x))) ∙ sym (some_append (λ c. is_in y (scan g c vs)) (again g cs x) []))
      go false r =
          ap (λ (l : List (List ℕ)). scan g (x ∷ []) vs ∷ l)
          (r (λ y. taken y || is_in y (scan g (x ∷ []) vs)) (fresh false)
          (λ y j. ap₂ (λ (a b : Bool). a || b) (old y j) (sym (or_false (is_in y (scan g (x ∷ []) vs))))
          ∙ sym (some_append (λ c. is_in y (scan g c vs)) (again g cs x) ((x ∷ []) ∷ []))))

  pub cliques_chain : (n : ℕ) → cliques n g ≡ map (λ c. scan g c (vertices n g)) (chain (λ x. false) (vertices n g))
  cliques_chain n =
      ap (λ (cs : List (List ℕ)). over (again g) cs (vertices n g))
      (once_opened [] (vertices n g) ∙ opened_chain [] (vertices n g) (λ x. false) (members_no_dup (live n g) n) (λ c i. absurd i) (λ x i. refl))
      ∙ again_map (chain (λ x. false) (vertices n g)) (vertices n g)
