-- The best of the described search is a clash-free division with fewest groups. Assumes nothing.
use mathlib.Core.Path.{◌≡◌, refl, sym, ap, ◌∙◌, subst}
use mathlib.Core.Bool.{Bool}
use mathlib.Core.List.{List, [], ◌∷◌, ◌++◌, append_assoc}
use Prim.Native.Nat.{ℕ, zero, suc, ◌≤◌, ◌<◌}
use native.Mathlib.Nat.{le_refl, le_trans, not-suc-le-zero}
use native.Mathlib.Omega.{arith}
use lib.Dec.{T}
use lib.ListN.{length}
use Rattle.sets.specs.Lists.{over}
use Rattle.clashes.specs.Matrix.{Valid}
use Rattle.clashes.specs.Colouring.{Proper, Chromatic}
use Rattle.clashes.specs.Divisions.{at, Canon, groups, Division, clash_free, Fewest}
use Rattle.clashes.proofs.ColouringLaws.{groups_le, free_proper, proper_free}
use Rattle.clashes.proofs.Meaning.{fewest_chromatic, alone_is, alone_free}
use Rattle.placing.specs.Search.{State, start, enter, size, choices, put, become, search, placing_search}
use Rattle.placing.proofs.OverLaws.{over_keeps, over_reaches}
use Rattle.placing.proofs.CanonLaws.{groups_append}
use Rattle.placing.proofs.PlacingLaws.{Node, put_node, choice}
use Rattle.placing.proofs.Steps.{turn, search_by}

-- ---- the best never grows

pub search_size : (clash : ℕ → ℕ → Bool) (left : ℕ) (c : List ℕ) (s : State) → size (search clash left c s) ≤ size s
search_size clash = search_by clash (λ left c s t. size t ≤ size s) (λ left c s h. le_refl (size s)) (λ c s h. omega (arith, h)) on
  where
    on : (left : ℕ) (c : List ℕ) (s : State) → groups 0 c < size s → ((t : State) (j : ℕ) → size (turn clash left c t j) ≤ size t)
        → size (over (turn clash left c) (enter s) (choices clash c)) ≤ size s
    on left c s h r = over_keeps (turn clash left c) (λ t. size t ≤ size s) (choices clash c) (enter s) (λ t j i b. le_trans (r t j) b) (le_refl (size s))

module _ (n : ℕ) (clash : ℕ → ℕ → Bool) (valid : Valid n clash) where
  -- ---- the best is a clash-free division

  pub record Fit (s : State) : Type 0 where
    pub division : Division n s.best
    pub free : T (clash_free n clash s.best)

  search_fit : (left : ℕ) (c : List ℕ) (s : State) → Node n clash valid left c → Fit s → Fit (search clash left c s)
  search_fit = search_by clash (λ left c s t. Node n clash valid left c → Fit s → Fit t) (λ left c s h d p. kept s p) full on
    where
      kept : (s : State) → Fit s → Fit (enter s)
      kept s p = record { division = p.division; free = p.free }

      full : (c : List ℕ) (s : State) → groups 0 c < size s → Node n clash valid zero c → Fit s → Fit (become c (enter s))
      full c s h d p =
          let e : length c ≡ n = omega (arith, d.long) in
          record {
            division = record { numbered = d.numbered; long = e };
            free = proper_free n clash c (subst (λ (k : ℕ). Proper k clash (at c)) e d.free);
          }

      on : (left : ℕ) (c : List ℕ) (s : State) → groups 0 c < size s
          → ((t : State) (j : ℕ) → Node n clash valid left (put c j) → Fit t → Fit (turn clash left c t j))
          → Node n clash valid (suc left) c → Fit s → Fit (over (turn clash left c) (enter s) (choices clash c))
      on left c s h r d p =
          over_keeps (turn clash left c) Fit (choices clash c) (enter s) (λ t j i q. r t j (put_node n clash valid left c j d i) q) (kept s p)

  -- ---- no clash-free division that goes on from a node has fewer groups than the best has afterwards

  pub record GoesOn (left : ℕ) (c e : List ℕ) : Type 0 where
    pub rest : length e ≡ left
    pub long : length (c ++ e) ≡ n
    pub numbered : Canon 0 (c ++ e)
    pub proper : Proper n clash (at (c ++ e))

  search_least : (left : ℕ) (c : List ℕ) (s : State) (e : List ℕ) → GoesOn left c e → size (search clash left c s) ≤ groups 0 (c ++ e)
  search_least = search_by clash (λ left c s t. (e : List ℕ) → GoesOn left c e → size t ≤ groups 0 (c ++ e)) back full on
    where
      back : (left : ℕ) (c : List ℕ) (s : State) → size s ≤ groups 0 c → (e : List ℕ) → GoesOn left c e → size s ≤ groups 0 (c ++ e)
      back left c s h e g = omega (arith, groups_append 0 c e, groups_le (groups 0 c) e)

      full : (c : List ℕ) (s : State) → groups 0 c < size s → (e : List ℕ) → GoesOn zero c e → groups 0 c ≤ groups 0 (c ++ e)
      full c s h e g = omega (arith, groups_append 0 c e, groups_le (groups 0 c) e)

      on : (left : ℕ) (c : List ℕ) (s : State) → groups 0 c < size s
          → ((t : State) (j : ℕ) (e : List ℕ) → GoesOn left (put c j) e → size (turn clash left c t j) ≤ groups 0 (put c j ++ e))
          → (e : List ℕ) → GoesOn (suc left) c e → size (over (turn clash left c) (enter s) (choices clash c)) ≤ groups 0 (c ++ e)
      on left c s h r [] g = absurd (omega (arith, g.rest))
      on left c s h r (j ∷ e) g =
          over_reaches (turn clash left c) (λ t. size t ≤ groups 0 (c ++ j ∷ e)) (choices clash c) (enter s) j
          (choice n clash valid c j e g.long g.numbered g.proper) hit (λ t i b. le_trans (search_size clash left (put c i) t) b)
        where
          join : put c j ++ e ≡ c ++ j ∷ e
          join = append_assoc c (j ∷ []) e

          further : GoesOn left (put c j) e
          further = record {
            rest = omega (arith, g.rest);
            long = ap length join ∙ g.long;
            numbered = subst (Canon 0) (sym join) g.numbered;
            proper = subst (λ (d : List ℕ). Proper n clash (at d)) (sym join) g.proper;
          }

          hit : (t : State) → size (turn clash left c t j) ≤ groups 0 (c ++ j ∷ e)
          hit t = subst (λ (d : List ℕ). size (turn clash left c t j) ≤ groups 0 d) join (r t j e further)

  -- ---- the whole search

  root : Node n clash valid n []
  root = record { numbered = tt; long = omega arith; free = λ x y a b t e. not-suc-le-zero a }

  placing_fit : Fit (placing_search n clash)
  placing_fit = search_fit n [] (start n) root (record { division = alone_is n; free = alone_free n clash valid.no_self })

  pub placing_division : Division n (placing_search n clash).best
  placing_division = placing_fit.division

  pub placing_free : T (clash_free n clash (placing_search n clash).best)
  placing_free = placing_fit.free

  pub placing_fewest : Fewest n clash (size (placing_search n clash))
  placing_fewest = record {
    best = (placing_search n clash).best;
    division = placing_fit.division;
    free = placing_fit.free;
    many = refl;
    fewest = λ c d t. search_least n [] (start n) c (record { rest = d.long; long = d.long; numbered = d.numbered; proper = free_proper n clash c t });
  }

  pub placing_chromatic : Chromatic n clash (size (placing_search n clash))
  placing_chromatic = fewest_chromatic n clash (size (placing_search n clash)) placing_fewest
