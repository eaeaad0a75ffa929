-- A hand-edited sheet, put right: document 02, Ask 9, sentence by sentence. A sheet is given by its groups as they were typed (specs/Typed.antt): each a list
-- of members by their numbers, from 1. Entries count from 0. Groups that are made of it are sets of entries, and sets are tests: `p j` says that j is one.
--
--   with p e             : p, and e
--   Going                : what is known on the way through a sheet: the entries seen, as members kept or lifted; those lifted; those kept of this group so
--                          far; and what was kept of each group before it, of those that something was kept in
--   taken n seen u       : the member u is not dropped
--   clashes n clash p e  : e clashes with one of p
--   sees n seen u        : the entries seen once the member u was gone through
--   member_of_lem n clash g u : the member u, gone through
--   closed n g           : a group is at its end
--   group_of n clash g us : a whole group, of the members us
--   gone n clash gs      : a whole sheet
--   again n g            : the entries to be put again, rising
--   admit n clash gs e   : the groups gs, with e in the first one that admits it, else in a new one at the end
--   mended_groups n clash gs : the groups of the mended sheet, in no order yet
--   group_place gs e     : the place of e's group among gs
--   mended n clash gs    : the mended sheet, as a division of n entries
--
-- That "seen before" is just that the same number stands earlier in the sheet is `seen_stands` of proofs/Seen.antt; that lifted and absent entries are just
-- those that no group kept, `again_homeless` of proofs/Sorted.antt. Assumes nothing.
use Rattle.std.specs.Prelude.{ℕ, suc, ◌-◌, List, [], ◌∷◌, ◌++◌, Bool, false, cond, not, ◌&&◌, ◌||◌, eqb}
use Rattle.std.proofs.Math.Decide.{ℕ_discrete}
use Rattle.sets.specs.Lists.{put, any, members, over}
use Rattle.clashes.specs.Divisions.{division}
use Rattle.lists.specs.Read.{inside}

abbrev pub none : ℕ → Bool
none j = false

abbrev pub with : (ℕ → Bool) → ℕ → ℕ → Bool
with p e j = p j || eqb e j

pub record Going : Type 0 where
  pub seen : ℕ → Bool
  pub lifted : ℕ → Bool
  pub mates : ℕ → Bool
  pub groups : List (ℕ → Bool)

-- ---- "goes through the members in the sheet's order"

-- "drops one that is no entry or was seen before"
abbrev pub taken : ℕ → (ℕ → Bool) → ℕ → Bool
taken n seen u = inside n u && not (seen (u - 1))

abbrev pub clashes : ℕ → (ℕ → ℕ → Bool) → (ℕ → Bool) → ℕ → Bool
clashes n clash p e = any n (λ j. p j && clash e j)

abbrev pub lifting : Going → ℕ → Going
lifting g e = record { seen = with g.seen e; lifted = with g.lifted e; mates = g.mates; groups = g.groups }

abbrev pub keeping : Going → ℕ → Going
keeping g e = record { seen = with g.seen e; lifted = g.lifted; mates = with g.mates e; groups = g.groups }

-- "and lifts out one that clashes with a member kept before it in its group"
abbrev pub member_of_lem : ℕ → (ℕ → ℕ → Bool) → Going → ℕ → Going
member_of_lem n clash g u =
    cond (taken n g.seen u) (cond (clashes n clash g.mates (u - 1)) (lifting g (u - 1)) (keeping g (u - 1))) g

-- a dropped member leaves what was seen; a lifted or a kept one is seen from now on
abbrev pub sees : ℕ → (ℕ → Bool) → ℕ → ℕ → Bool
sees n seen u = cond (taken n seen u) (with seen (u - 1)) seen

-- "Groups emptied by drops vanish"
abbrev pub closed : ℕ → Going → Going
closed n g = record { seen = g.seen; lifted = g.lifted; mates = none; groups = g.groups ++ put (any n g.mates) g.mates [] }

abbrev pub group_of : ℕ → (ℕ → ℕ → Bool) → Going → List ℕ → Going
group_of n clash g us = closed n (over (member_of_lem n clash) g us)

abbrev pub start : Going
start = record { seen = none; lifted = none; mates = none; groups = [] }

abbrev pub gone : ℕ → (ℕ → ℕ → Bool) → List (List ℕ) → Going
gone n clash gs = over (group_of n clash) start gs

-- ---- "Lifted entries and absent ones, by rising number"

abbrev pub again : ℕ → Going → List ℕ
again n g = members (λ e. g.lifted e || not (g.seen e)) n

-- "go to the first group that admits them, else to a new group at the end"
abbrev pub admit : ℕ → (ℕ → ℕ → Bool) → List (ℕ → Bool) → ℕ → List (ℕ → Bool)
admit n clash [] e = with none e ∷ []
admit n clash (p ∷ gs) e = cond (clashes n clash p e) (p ∷ admit n clash gs e) (with p e ∷ gs)

abbrev pub mended_groups : ℕ → (ℕ → ℕ → Bool) → List (List ℕ) → List (ℕ → Bool)
mended_groups n clash gs = over (admit n clash) (gone n clash gs).groups (again n (gone n clash gs))

-- ---- "the order is put right at the end"

abbrev pub group_place : List (ℕ → Bool) → ℕ → ℕ
group_place [] e = 0
group_place (p ∷ gs) e = cond (p e) 0 (suc (group_place gs e))

-- groups by smallest member, that is, numbered by first use
abbrev pub mended : ℕ → (ℕ → ℕ → Bool) → List (List ℕ) → List ℕ
mended n clash gs = division ℕ_discrete n (group_place (mended_groups n clash gs))
