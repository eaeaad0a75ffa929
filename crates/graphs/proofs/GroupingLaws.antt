-- Laws of a node's groups: they are a division of the entries, with as many groups as live vertices. Assumes nothing.
use mathlib.Core.Path.{◌≡◌, refl, sym, ap, ◌∙◌, subst}
use mathlib.Core.Logic.{◌⊎◌, inl, inr, ◌≢◌}
use mathlib.Core.List.{List, [], ◌∷◌, ◌++◌}
use Prim.Native.Nat.{ℕ, suc, ◌<◌, max}
use native.Mathlib.Nat.{le_antisymm}
use native.Mathlib.Decide.{ℕ_discrete}
use native.Mathlib.Omega.{arith}
use lib.ListN.{length, get_or-append}
use lib.Seq.{get_or_at}
use Rattle.sets.specs.Lists.{In, table}
use Rattle.sets.proofs.ListLaws.{table-In, In-table, table_suc, no_dup_le}
use Rattle.sets.proofs.MemberLaws.{members_no_dup}
use Rattle.clashes.specs.Labels.{add, place, distinct, number}
use Rattle.clashes.specs.Divisions.{at, groups, division, Division, SameGroups}
use Rattle.clashes.proofs.NumberLaws.{place_new, distinct_new, distinct_cases, distinct_no_dup}
use Rattle.clashes.proofs.DivisionLaws.{division_canon, division_length, division_groups, division_same, division_diff}
use Rattle.clashes.proofs.ColouringLaws.{canon_below}
use Rattle.graphs.specs.Graph.{Graph, live, vertices, grouping}
use Rattle.graphs.specs.Good.{Good}
use Rattle.graphs.proofs.GraphLaws.{vertices_live, live_vertices}

-- ---- one entry more

groups_behind : (m : ℕ) (c : List ℕ) (k : ℕ) → groups m (c ++ k ∷ []) ≡ max (groups m c) (suc k)
groups_behind m [] k = refl
groups_behind m (j ∷ c) k = groups_behind (max m (suc j)) c k

number_behind : (s l : List ℕ) (x : ℕ) → number ℕ_discrete s (l ++ x ∷ []) ≡ number ℕ_discrete s l ++ place ℕ_discrete x (distinct ℕ_discrete s l) ∷ []
number_behind s [] x = refl
number_behind s (y ∷ l) x = ap (λ t. place ℕ_discrete y s ∷ t) (number_behind (add ℕ_discrete s y) l x)

-- the groups of the entries below i
abbrev pub part : (ℕ → ℕ) → ℕ → List ℕ
part f i = division ℕ_discrete i f

part_next : (f : ℕ → ℕ) (i : ℕ) → part f (suc i) ≡ part f i ++ place ℕ_discrete (f i) (distinct ℕ_discrete [] (table f i)) ∷ []
part_next f i = ap (number ℕ_discrete []) (table_suc f i) ∙ number_behind [] (table f i) (f i)

-- a group of its own, with the next number, where i is none of the names before
pub part_opens : (f : ℕ → ℕ) (i : ℕ) → ((j : ℕ) → j < i → f j ≢ f i) → part f (suc i) ≡ part f i ++ groups 0 (part f i) ∷ []
part_opens f i q =
    part_next f i
    ∙ ap (λ (p : ℕ). part f i ++ p ∷ []) (place_new ℕ_discrete (f i) (distinct ℕ_discrete [] (table f i)) new ∙ sym (division_groups ℕ_discrete i f))
  where
    new : ¬ In (f i) (distinct ℕ_discrete [] (table f i))
    new h = elim (distinct_cases ℕ_discrete [] (table f i) (f i) h) [ inl b ↦ b | inr m ↦ (let t = table-In f i (f i) m in q t.0 t.1 (sym t.2)) ]

-- the group of w, where w has i's name
pub part_joins : (f : ℕ → ℕ) (i w : ℕ) → w < i → f w ≡ f i → part f (suc i) ≡ part f i ++ at (part f i) w ∷ []
part_joins f i w b e = part_next f i ∙ ap (λ (p : ℕ). part f i ++ p ∷ []) same
  where
    long : length (part f i) ≡ i
    long = division_length ℕ_discrete i f

    same : place ℕ_discrete (f i) (distinct ℕ_discrete [] (table f i)) ≡ at (part f i) w
    same =
        sym (get_or_at (part f i) (place ℕ_discrete (f i) (distinct ℕ_discrete [] (table f i))) [] 0 i long)
        ∙ ap (λ (c : List ℕ). at c i) (sym (part_next f i))
        ∙ division_same ℕ_discrete (suc i) f i w (omega arith) (omega arith) (sym e)
        ∙ ap (λ (c : List ℕ). at c w) (part_next f i)
        ∙ get_or-append (part f i) (place ℕ_discrete (f i) (distinct ℕ_discrete [] (table f i)) ∷ []) 0 w (omega (arith, long))

-- how many groups there are then
pub groups_opens : (f : ℕ → ℕ) (i : ℕ) → ((j : ℕ) → j < i → f j ≢ f i) → groups 0 (part f (suc i)) ≡ suc (groups 0 (part f i))
groups_opens f i q = ap (groups 0) (part_opens f i q) ∙ groups_behind 0 (part f i) (groups 0 (part f i)) ∙ up (groups 0 (part f i))
  where
    up : (m : ℕ) → max m (suc m) ≡ suc m
    up m = omega arith

pub groups_joins : (f : ℕ → ℕ) (i w : ℕ) → w < i → f w ≡ f i → groups 0 (part f (suc i)) ≡ groups 0 (part f i)
groups_joins f i w b e =
    ap (groups 0) (part_joins f i w b e) ∙ groups_behind 0 (part f i) (at (part f i) w)
    ∙ stay (groups 0 (part f i)) (at (part f i) w) (canon_below 0 (part f i) w (omega (arith, division_length ℕ_discrete i f)))
  where
    stay : (m k : ℕ) → k < m → max m (suc k) ≡ m
    stay m k l = omega arith

-- ---- the groups of a node

module _ (n : ℕ) (g : Graph) where
  pub grouping_division : Division n (grouping n g)
  grouping_division = record { numbered = division_canon ℕ_discrete n g.rep; long = division_length ℕ_discrete n g.rep }

  -- two entries are in one group just where one vertex stands for both
  pub grouping_same : SameGroups n (grouping n g) g.rep
  grouping_same = record { together = division_same ℕ_discrete n g.rep; apart = division_diff ℕ_discrete n g.rep }

  -- an entry is in the group of the vertex that stands for it
  pub grouping_rep : Good n g → (i : ℕ) → i < n → at (grouping n g) i ≡ at (grouping n g) (g.rep i)
  grouping_rep k i b = let l = k.rep_live i b in division_same ℕ_discrete n g.rep i (g.rep i) b l.below (sym l.self)

  pub grouping_groups : Good n g → groups 0 (grouping n g) ≡ length (vertices n g)
  grouping_groups k =
      division_groups ℕ_discrete n g.rep
      ∙ le_antisymm
      (no_dup_le (distinct ℕ_discrete [] (table g.rep n)) (vertices n g) (distinct_no_dup ℕ_discrete [] (table g.rep n) tt) there)
      (no_dup_le (vertices n g) (distinct ℕ_discrete [] (table g.rep n)) (members_no_dup (live n g) n) back)
    where
      there : (x : ℕ) → In x (distinct ℕ_discrete [] (table g.rep n)) → In x (vertices n g)
      there x i = go (distinct_cases ℕ_discrete [] (table g.rep n) x i)
        where
          go : In x [] ⊎ In x (table g.rep n) → In x (vertices n g)
          go (inl b) = absurd b
          go (inr j) = let t = table-In g.rep n x j in rw t.2 (live_vertices n g (g.rep t.0) (k.rep_live t.0 t.1))

      back : (x : ℕ) → In x (vertices n g) → In x (distinct ℕ_discrete [] (table g.rep n))
      back x i =
          let l = vertices_live n g x i in
          distinct_new ℕ_discrete [] (table g.rep n) x (subst (λ z. In z (table g.rep n)) l.self (In-table g.rep n x l.below))
