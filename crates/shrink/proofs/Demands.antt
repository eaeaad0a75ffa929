-- THE DEMANDS, for a list that is shrunk first. Read this file first; each theorem's words are definitions of the crates' specs/ folders.
--
--   until neither applies: when all of `gone` have gone, neither rule applies
--   demand 2: from the chromatic number of the shrunk list and a clash-free division of it into as many groups, put back is a clash-free division of
--             the full list, numbered by first use, whose number of groups is the answer, and is the full list's chromatic number
--   demand 3: the shrunk list has no more clash-free divisions than the full one, so the walk's count stays at most 2 P - 1 for the full one
--
-- Over any bound: all that is asked of it is that it is one (`IsBound`), and at most the chromatic number of the list. Assumes nothing.
use mathlib.Core.Path.{◌≡◌, refl, sym, subst}
use mathlib.Core.Bool.{Bool}
use mathlib.Core.List.{List}
use mathlib.Core.Option.{none}
use Prim.Native.Nat.{ℕ, suc, ◌*◌, ◌≤◌, max}
use native.Mathlib.Omega.{arith}
use lib.Dec.{T}
use Rattle.clashes.specs.Matrix.{Valid}
use Rattle.clashes.specs.Colouring.{Chromatic}
use Rattle.clashes.specs.Divisions.{groups, Division, clash_free, free_divisions}
use Rattle.graphs.specs.Graph.{Graph, graph}
use Rattle.zykov.specs.Walk.{size}
use Rattle.zykov.specs.Bound.{IsBound}
use Rattle.zykov.proofs.Demands.{bounded_division, bounded_free, bounded_chromatic, bounded_count}
use Rattle.shrink.specs.Rules.{next, left, everyone, gone}
use Rattle.shrink.specs.Shrunk.{fewest, shrunk_size, shrunk_clash, whole, shrunk_of, shrunk_walk}
use Rattle.shrink.specs.Steps.{Steps}
use Rattle.shrink.proofs.RuleLaws.{removals_steps, gone_end}
use Rattle.shrink.proofs.BackLaws.{few_most}
use Rattle.shrink.proofs.Whole as laws

module _ (L n : ℕ) (clash : ℕ → ℕ → Bool) where
  -- "until neither applies"
  pub shrunk_ends : next n clash (left (everyone n) (gone L n clash)) L ≡ none
  shrunk_ends = gone_end L n clash

  module _ (valid : Valid n clash) where
    steps : Steps L n clash (everyone n) (gone L n clash)
    steps = removals_steps L n clash n (everyone n)

    pub shrunk_small : shrunk_size L n clash ≤ n
    shrunk_small = laws.size_le L n clash valid (gone L n clash) steps

    pub shrunk_valid : Valid (shrunk_size L n clash) (shrunk_clash L n clash)
    shrunk_valid = laws.among_valid L n clash valid (gone L n clash) steps

    pub shrunk_divisions : free_divisions (shrunk_size L n clash) (shrunk_clash L n clash) ≤ free_divisions n clash
    shrunk_divisions = laws.divisions_le L n clash valid (gone L n clash) steps

    module _ (c : List ℕ) (d : Division (shrunk_size L n clash) c) (free : T (clash_free (shrunk_size L n clash) (shrunk_clash L n clash) c)) where
      pub whole_division : Division n (whole L n clash c)
      whole_division = laws.full_division L n clash valid (gone L n clash) steps c d free

      pub whole_free : T (clash_free n clash (whole L n clash c))
      whole_free = laws.full_free L n clash valid (gone L n clash) steps c d free

      module _ (least : (k : ℕ) → Chromatic n clash k → L ≤ k) (k : ℕ) (C : Chromatic (shrunk_size L n clash) (shrunk_clash L n clash) k)
          (many : groups 0 c ≡ k) where
        pub whole_many : groups 0 (whole L n clash c) ≡ fewest L (gone L n clash) k
        whole_many = laws.full_many L n clash valid (gone L n clash) steps c d free least k C many

        pub whole_chromatic : Chromatic n clash (fewest L (gone L n clash) k)
        whole_chromatic = laws.full_chromatic L n clash valid (gone L n clash) steps c d free least k C many

-- ---- with the walk

module _ (bound : ℕ → Graph → ℕ) (B : IsBound bound) (n : ℕ) (clash : ℕ → ℕ → Bool) (valid : Valid n clash)
    (least : (k : ℕ) → Chromatic n clash k → bound n (graph n clash) ≤ k) where
  abbrev L : ℕ
  L = bound n (graph n clash)

  shrunk_ok : Valid (shrunk_size L n clash) (shrunk_clash L n clash)
  shrunk_ok = shrunk_valid L n clash valid

  of_division : Division (shrunk_size L n clash) (shrunk_of bound n clash).best
  of_division = bounded_division (shrunk_size L n clash) (shrunk_clash L n clash) shrunk_ok bound B

  pub of_free : T (clash_free (shrunk_size L n clash) (shrunk_clash L n clash) (shrunk_of bound n clash).best)
  of_free = bounded_free (shrunk_size L n clash) (shrunk_clash L n clash) shrunk_ok bound B

  of_chromatic : Chromatic (shrunk_size L n clash) (shrunk_clash L n clash) (size (shrunk_of bound n clash))
  of_chromatic = bounded_chromatic (shrunk_size L n clash) (shrunk_clash L n clash) shrunk_ok bound B

  pub shrunk_division : Division n (shrunk_walk bound n clash).best
  shrunk_division = whole_division L n clash valid (shrunk_of bound n clash).best of_division of_free

  pub shrunk_free : T (clash_free n clash (shrunk_walk bound n clash).best)
  shrunk_free = whole_free L n clash valid (shrunk_of bound n clash).best of_division of_free

  -- "the larger of L and the shrunk k where the second rule was used, else the shrunk k"
  pub shrunk_many : size (shrunk_walk bound n clash) ≡ fewest L (gone L n clash) (size (shrunk_of bound n clash))
  shrunk_many =
      whole_many L n clash valid (shrunk_of bound n clash).best of_division of_free least (size (shrunk_of bound n clash)) of_chromatic refl

  pub shrunk_chromatic : Chromatic n clash (size (shrunk_walk bound n clash))
  shrunk_chromatic =
      subst (Chromatic n clash) (sym shrunk_many)
      (whole_chromatic L n clash valid (shrunk_of bound n clash).best of_division of_free least (size (shrunk_of bound n clash)) of_chromatic refl)

  -- which is the larger of the two in either case
  pub shrunk_larger : size (shrunk_walk bound n clash) ≡ max L (size (shrunk_of bound n clash))
  shrunk_larger =
      omega (
        arith,
        shrunk_many,
        least (size (shrunk_walk bound n clash)) shrunk_chromatic,
        laws.shrunk_le L n clash valid (gone L n clash) (steps L n clash valid) (size (shrunk_of bound n clash))
            (size (shrunk_walk bound n clash)) of_chromatic shrunk_chromatic,
        few_most n clash L valid (gone L n clash) (size (shrunk_of bound n clash)),
      )

  pub shrunk_count : suc (shrunk_walk bound n clash).nodes ≤ 2 * free_divisions n clash
  shrunk_count =
      omega (arith, bounded_count (shrunk_size L n clash) (shrunk_clash L n clash) shrunk_ok bound B, shrunk_divisions L n clash valid)
