-- Laws of the clique: it is the largest of the cliques one by one, it is a clique, and in a complete graph it has every vertex.
-- Assumes nothing.
use mathlib.Core.Path.{◌≡◌, refl, sym, ap, ◌∙◌, subst}
use mathlib.Core.Logic.{inl, inr, ◌≢◌}
use mathlib.Core.Bool.{Bool, true, false, ◌||◌, cond}
use mathlib.Core.List.{List, [], ◌∷◌, map}
use Prim.Native.Nat.{ℕ, ◌≤◌, ◌<◌, zero-le}
use native.Mathlib.Nat.{le_refl, le_trans}
use native.Mathlib.Decide.{dec_lt}
use native.Mathlib.Omega.{arith}
use lib.Dec.{T, ltb}
use lib.ListN.{length}
use borrow.Author.Tests.{lt-ltb, le-ltb}
use Rattle.sets.specs.Lists.{In, NoDup, over}
use Rattle.sets.proofs.ListLaws.{no_dup_le}
use Rattle.sets.proofs.MemberLaws.{members_no_dup}
use Rattle.graphs.specs.Graph.{Graph, live, vertices}
use Rattle.graphs.specs.Good.{Live, Good}
use Rattle.graphs.proofs.GraphLaws.{vertices_live}
use Rattle.cliques.specs.Clique.{is_in, joined, cliques, clique, IsClique}
use Rattle.cliques.specs.Growth.{scan}
use Rattle.cliques.proofs.ListLaws.{every_make, larger, larger_none, larger_le}
use Rattle.cliques.proofs.ScanLaws.{joined_adds, joined_from, scan_keeps, scan_clique, empty_clique, alone_clique}
use Rattle.cliques.proofs.ChainLaws.{chain, cliques_chain}

-- ---- the largest of the cliques one by one

-- c grown along all vertices
abbrev pub second : ℕ → Graph → List ℕ → List ℕ
second n g c = scan g c (vertices n g)

pub clique_chain : (n : ℕ) (g : Graph) → clique n g ≡ over larger [] (map (second n g) (chain g (λ x. false) (vertices n g)))
unfolding clique
clique_chain n g = sym (larger_none (cliques n g)) ∙ ap (over larger []) (cliques_chain g n)

larger-In : (b c : List ℕ) (cs : List (List ℕ)) → In c cs → length c ≤ length (over larger b cs)
larger-In b c [] i = absurd i
larger-In b c (d ∷ cs) (inl e) = le_trans (rw e (go (dec_lt (length b) (length d)))) (larger_le (larger b d) cs)
  where
    go : Dec (length b < length d) → length d ≤ length (larger b d)
    go (yes l) = rw (lt-ltb (length b) (length d) l) (le_refl (length d))
    go (no q) = rw (le-ltb (length b) (length d) (omega arith)) (omega arith)
larger-In b c (d ∷ cs) (inr i) = larger-In (larger b d) c cs i

module _ (n : ℕ) (g : Graph) (k : Good n g) where
  -- ---- it is a clique

  pub larger_clique : (b c : List ℕ) → IsClique n g b → IsClique n g c → IsClique n g (larger b c)
  larger_clique b c p q = go (ltb (length b) (length c))
    where
      go : (t : Bool) → IsClique n g (cond t c b)
      go true = q
      go false = p

  second_clique : (c : List ℕ) → IsClique n g c → IsClique n g (second n g c)
  second_clique c q = scan_clique n g k c (vertices n g) (vertices_live n g) q

  chain_clique : (b : List ℕ) (taken : ℕ → Bool) (vs : List ℕ) → ((x : ℕ) → In x vs → Live n g x) → IsClique n g b
      → IsClique n g (over larger b (map (second n g) (chain g taken vs)))
  chain_clique b taken [] l q = q
  chain_clique b taken (x ∷ vs) l q =
      go (taken x) (chain_clique b taken vs (λ y i. l y (inr i)) q)
      (chain_clique (larger b (second n g c)) (λ y. taken y || is_in y c) vs (λ y i. l y (inr i)) (larger_clique b (second n g c) q (second_clique c own)))
    where
      c : List ℕ
      c = scan g (x ∷ []) vs

      own : IsClique n g c
      own = scan_clique n g k (x ∷ []) vs (λ y i. l y (inr i)) (alone_clique n g k x (l x (inl refl)))

      go : (t : Bool) → IsClique n g (over larger b (map (second n g) (chain g taken vs)))
          → IsClique n g (over larger (larger b (second n g c)) (map (second n g) (chain g (λ y. taken y || is_in y c) vs)))
          → IsClique n g (over larger b (map (second n g) (cond t (chain g taken vs) (c ∷ chain g (λ y. taken y || is_in y c) vs))))
      go true r s = r
      go false r s = s

  pub clique_is : IsClique n g (clique n g)
  clique_is = rw (clique_chain n g) (chain_clique [] (λ x. false) (vertices n g) (vertices_live n g) (empty_clique n g k))

  -- ---- in a complete graph it has every vertex

  module _ (full : (x y : ℕ) → Live n g x → Live n g y → x ≢ y → T (g.adj x y)) where
    -- each of vs is admitted
    full_scan : (c vs : List ℕ) → NoDup vs → ((x : ℕ) → In x vs → Live n g x) → ((x : ℕ) → In x c → Live n g x) → ((x : ℕ) → In x c → ¬ In x vs)
        → (y : ℕ) → In y vs → In y (scan g c vs)
    full_scan c [] d l m q y i = absurd i
    full_scan c (x ∷ vs) d l m q y i =
        elim i [
          | inl e ↦ rw e (scan_keeps g (joined g c x) vs x adds)
          | inr j ↦
              full_scan (joined g c x) vs d.1 (λ z a. l z (inr a))
              (λ z a. elim (joined_from g c x z a) [ inl e ↦ rw e.0 (l x (inl refl)) | inr b ↦ m z b ])
              (λ z a b. elim (joined_from g c x z a) [ inl e ↦ d.0 (subst (λ w. In w vs) e.0 b) | inr h ↦ q z h (inr b) ]) y j
        ]
      where
        adds : In x (joined g c x)
        adds = rw (joined_adds g c x (every_make (g.adj x) c (λ z j. full x z (l x (inl refl)) (m z j) (λ e. q z j (inl (sym e)))))) (inl refl)

    full_chain : (vs : List ℕ) → NoDup vs → ((x : ℕ) → In x vs → Live n g x) → length vs ≤ length (over larger [] (map (second n g) (chain g (λ x. false) vs)))
    full_chain [] d l = zero-le
    full_chain (x ∷ vs) d l =
        le_trans (no_dup_le (x ∷ vs) (second n g c) d there)
        (larger-In [] (second n g c) (map (second n g) (c ∷ chain g (λ y. false || is_in y c) vs)) (inl refl))
      where
        c : List ℕ
        c = scan g (x ∷ []) vs

        there : (y : ℕ) → In y (x ∷ vs) → In y (second n g c)
        there y (inl e) = rw e (scan_keeps g c (vertices n g) x (scan_keeps g (x ∷ []) vs x (inl refl)))
        there y (inr i) =
            scan_keeps g c (vertices n g) y
            (full_scan (x ∷ []) vs d.1 (λ z a. l z (inr a)) (λ z a. elim a [ inl e ↦ rw e (l x (inl refl)) | inr b ↦ absurd b ])
            (λ z a b. elim a [ inl e ↦ d.0 (subst (λ w. In w vs) e b) | inr h ↦ h ]) y i)

    pub clique_full : length (vertices n g) ≤ length (clique n g)
    clique_full = rw (clique_chain n g) (full_chain (vertices n g) (members_no_dup (live n g) n) (vertices_live n g))
