-- From what the walk promises of the shrunk rows follows what the call promises of the full ones. Assumes nothing.
use mathlib.Core.Path.{◌≡◌, refl, sym, ap, ap₂, ◌∙◌, subst}
use mathlib.Core.Bool.{Bool, ◌&&◌, cond}
use mathlib.Core.List.{List, [], ◌∷◌, ◌++◌}
use Prim.Native.Nat.{ℕ, ◌+◌, ◌≤◌, ◌<◌, max}
use native.Mathlib.Decide.{ℕ_discrete}
use native.Mathlib.Omega.{arith}
use lib.Dec.{T, eqb, ltb, ltb→lt, lt→ltb}
use lib.ListN.{length, take, drop}
use lib.Seq.{take_at, drop_at, get_or-take, length-take-le}
use Rattle.std.specs.Prelude.{Ok, Err}
use Rattle.refusals.specs.declared.Invalid.TheVariants.{Many, Stray, Itself, OneSided}
use Rattle.refusals.specs.declared.Unsolved.{Unsolved}
use Rattle.refusals.specs.declared.Unsolved.TheVariants.{OfRows, Short, Budget}
use Rattle.sets.specs.Lists.{members}
use Rattle.sets.specs.Set.{has, size}
use Rattle.sets.proofs.MemberLaws.{members_count, members_agree, members_narrow}
use Rattle.clashes.specs.Labels.{place}
use Rattle.clashes.specs.Colouring.{Chromatic}
use Rattle.clashes.specs.Divisions.{at, groups, division, Division, clash_free}
use Rattle.clashes.specs.Matrix.{matrix, Valid, SoundUpTo}
use Rattle.clashes.specs.Room.{OpenUpTo}
use Rattle.clashes.proofs.DivisionLaws.{groups_fit}
use Rattle.clashes.proofs.ColouringLaws.{canon_below}
use Rattle.clashes.proofs.MatrixLaws.{sound_valid}
use Rattle.bounds.specs.Names.{clique_set, mycielskian}
use Rattle.bounds.specs.Lent.{of_list}
use Rattle.bounds.proofs.BoundLaws.{mycielskian_chromatic}
use Rattle.graphs.proofs.LoopLaws.{size_le}
use Rattle.zykov.specs.Walk.{State, bounded_walk_lem}
use Rattle.zykov.specs.Walk as walk
use Rattle.walk.specs.Promise.{PromisedUpTo}
use Rattle.walk.specs.declared.found.Fewest.{Fewest}
use Rattle.walk.proofs.Answers.{mycielskian_bound}
use Rattle.shrink.specs.Rules.{Removal, left, everyone, gone, among}
use Rattle.shrink.specs.Rules as rules
use Rattle.shrink.specs.Back.{back, spread}
use Rattle.shrink.specs.Shrunk.{shrunk_size, shrunk_clash, whole, shrunk_of, shrunk_walk}
use Rattle.shrink.specs.Steps.{Steps, Fits}
use Rattle.shrink.proofs.RuleLaws.{left_in, removals_steps}
use Rattle.shrink.proofs.BackLaws.{back_fits, spread_at, spread_fits}
use Rattle.shrink.proofs.Alike.{Alike, alike_fits, back_alike, division_agree}
use Rattle.shrink.proofs.Demands as demands
use Rattle.removing.specs.Words.{Entries, removed, Shrank}
use Rattle.restoring.specs.Rows.{names, Small}
use Rattle.restoring.specs.Seats.{seating_of, Taken, Spread, Returning, Returned, Standing}
use Rattle.removing.specs.declared.Shrunk.{Shrunk}
use Rattle.restoring.specs.declared.Seats.{Seats}
use Rattle.restoring.proofs.TurnLaws.{names_long, place_below}
use Rattle.shrinking.proofs.RowLaws.{rows_sound, rows_walk}

module _ (most : ℕ) (rows : List ℕ) (sound : SoundUpTo most rows) (s : Shrunk) (w : Shrank (of_list mycielskian rows) rows s) where
  abbrev n : ℕ
  n = length rows

  abbrev clash : ℕ → ℕ → Bool
  clash = matrix rows

  abbrev L : ℕ
  L = of_list mycielskian rows

  abbrev rs : List Removal
  rs = removed s.went s.gone

  -- how many stay
  abbrev m : ℕ
  m = size most s.present

  few : n ≤ most
  few = sound.apart.inside.few

  valid : Valid n clash
  valid = sound_valid rows sound

  least : (k : ℕ) → Chromatic n clash k → L ≤ k
  least k c = mycielskian_chromatic n clash valid k c

  -- ---- who stays

  here_is : (x : ℕ) → has s.present x ≡ left (everyone n) rs x
  here_is x = w.stays x ∙ ap (λ (l : List Removal). left (everyone n) l x) (sym w.went)

  pub present_entries : Entries n s.present
  present_entries x t = ltb→lt x n (left_in (everyone n) rs x (subst T (here_is x) t))

  names_full : names most s.present ≡ members (has s.present) n
  names_full = members_narrow (has s.present) n most few (λ j b t. let z : ⊥ = omega (arith, present_entries j t) in z)

  names_left : names most s.present ≡ members (left (everyone n) rs) n
  names_left = names_full ∙ members_agree n (has s.present) (left (everyone n) rs) (λ j b. here_is j)

  names_are : names most s.present ≡ rules.names L n clash
  names_are = names_left ∙ ap (λ (l : List Removal). members (left (everyone n) l) n) w.went

  many_stay : m ≡ shrunk_size L n clash
  many_stay = sym (names_long most s.present) ∙ ap length names_are

  pub stay_all : s.gone + m ≡ n
  stay_all = omega (arith, w.all, sym (names_long most s.present) ∙ ap length names_full ∙ members_count (has s.present) n)

  steps : Steps L n clash (everyone n) rs
  steps = subst (Steps L n clash (everyone n)) (sym w.went) (removals_steps L n clash n (everyone n))

  -- ---- the shrunk rows

  module _ (small : List ℕ) (r : Small most rows s.present small) where
    abbrev lent : List ℕ
    lent = take m small

    pub small_few : m ≤ length small
    small_few = omega (arith, size_le most s.present, r.long)

    pub small_long : length lent ≡ m
    small_long = length-take-le m small small_few

    small_is : (x y : ℕ) → x < m → matrix lent x y ≡ (ltb y m && among (names most s.present) clash x y)
    small_is x y b = ap (λ (v : ℕ). has v y) (get_or-take m small x 0 b) ∙ r.is x y b

    small_as : (x y : ℕ) → x < shrunk_size L n clash → matrix lent x y ≡ (ltb y (shrunk_size L n clash) && shrunk_clash L n clash x y)
    small_as x y b =
        small_is x y (omega (arith, many_stay))
        ∙ ap₂ (λ (k : ℕ) (l : List ℕ). ltb y k && among l clash x y) many_stay names_are

    -- the walk over them is refused by 6 alone
    pub small_sound : SoundUpTo most lent
    small_sound =
        rows_sound (shrunk_size L n clash) (shrunk_clash L n clash) lent (small_long ∙ many_stay) small_as most
        (omega (arith, few, demands.shrunk_small L n clash valid)) (demands.shrunk_valid L n clash valid)

    small_walk : bounded_walk_lem mycielskian (length lent) (matrix lent) ≡ shrunk_of mycielskian n clash
    small_walk = rows_walk (shrunk_size L n clash) (shrunk_clash L n clash) lent (small_long ∙ many_stay) small_as mycielskian

    module _ (before inner inner' : List ℕ) (budget : ℕ) (room : n ≤ length before) where
      opened : OpenUpTo most rows (length before)
      opened = record { sound = sound; bytes = room }

      -- ---- refused

      pub shrunk_refused : m ≤ length inner → (e : Unsolved) → PromisedUpTo most (bounded_walk_lem mycielskian) lent inner budget (Err e) inner'
          → PromisedUpTo most (shrunk_walk mycielskian) rows before budget (Err e) before
      shrunk_refused b (OfRows Many) p = absurd (let z : ⊥ = omega (arith, p.0, small_sound.apart.inside.few) in z)
      shrunk_refused b (OfRows (Stray i)) p = absurd (small_sound.apart.inside.no_stray i p.0.1.below p.0.1.here)
      shrunk_refused b (OfRows (Itself i)) p = absurd (small_sound.apart.no_itself i p.0.1.below p.0.1.here)
      shrunk_refused b (OfRows (OneSided i)) p = absurd (small_sound.no_one_sided i p.0.1.below p.0.1.here)
      shrunk_refused b Short p = absurd (let z : ⊥ = omega (arith, p.0.bytes, small_long) in z)
      shrunk_refused b (Budget c) p =
          (record { opened = opened; all = p.0.all; more = subst (λ (d : State). budget < d.nodes) small_walk p.0.more }, refl)

      -- ---- accepted

      module _ (f : Fewest) (p : PromisedUpTo most (bounded_walk_lem mycielskian) lent inner budget (Ok f) inner') where
        abbrev k : ℕ
        k = f.k

        -- the shrunk list's division
        abbrev best : List ℕ
        best = take m inner'

        best_is : best ≡ (shrunk_of mycielskian n clash).best
        best_is = ap (λ (i : ℕ). take i inner') (sym small_long) ∙ p.best ∙ ap (λ (d : State). d.best) small_walk

        best_division : Division m best
        best_division = subst (λ (i : ℕ). Division i (take i inner')) small_long p.division

        best_many : groups 0 best ≡ k
        best_many = ap (λ (i : ℕ). groups 0 (take i inner')) (sym small_long) ∙ p.many

        k_few : k ≤ m
        k_few = omega (arith, best_many, groups_fit 0 best best_division.numbered, best_division.long)

        best_at : (i : ℕ) → i < m → at best i ≡ at inner' i
        best_at i b = get_or-take m inner' i 0 b

        pub colours_few : Taken most s.present inner'
        colours_few i b =
            omega (arith, best_at i b, canon_below 0 best i (omega (arith, best_division.long)), best_many, k_few, size_le most s.present)

        -- who stays, without a clash
        l : List ℕ
        l = members (left (everyone n) rs) n

        best_free : T (clash_free (length l) (among l clash) best)
        unfolding l
        best_free = subst (λ (x : List ℕ). T (clash_free (length x) (among x clash) best)) (sym names_are ∙ names_left)
            (subst (λ (x : List ℕ). T (clash_free (shrunk_size L n clash) (shrunk_clash L n clash) x)) (sym best_is)
            (demands.of_free mycielskian mycielskian_bound n clash valid least))

        best_long : length best ≡ length l
        unfolding l
        best_long = best_division.long ∙ sym (names_long most s.present) ∙ ap length names_left

        spread_ok : Fits n clash (left (everyone n) rs) (spread n l best)
        unfolding l
        spread_ok = spread_fits n clash (left (everyone n) rs) best best_long best_free

        module _ (seats : Seats) (h : Spread most s.present inner' k seats) where
          seats_alike : Alike n clash (left (everyone n) rs) (spread n l best) (seating_of seats)
          unfolding l
          seats_alike = record {
            many = best_many ∙ sym h.many_is;
            group = λ x b t.
                let u = subst T (sym (here_is x)) t in
                let c : x < most = omega (arith, few) in
                spread_at n clash (left (everyone n) rs) best x b
                ∙ ap (λ (y : List ℕ). at best (place ℕ_discrete x y)) (sym names_left)
                ∙ best_at (place ℕ_discrete x (names most s.present)) (place_below most s.present x c u) ∙ sym (h.group x c u);
          }

          seats_ok : Fits n clash (left (everyone n) rs) (seating_of seats)
          seats_ok =
              alike_fits n clash (left (everyone n) rs) (spread n l best) (seating_of seats) seats_alike (omega (arith, h.long_group, few)) spread_ok

          pub returning : Returning most rows s.went s.gone seats
          returning = record {
            few = few;
            valid = valid;
            bound = L;
            steps = steps;
            fits = seats_ok;
            sets = λ j x b. h.sets j x b ∙ ap (λ (t : Bool). t && eqb (at seats.group x) j) (here_is x);
            room = omega (arith, h.many_is, k_few, stay_all);
            long_group = h.long_group;
            long_sets = h.long_sets;
          }

          module _ (full : Seats) (b : Returned most rows s.went s.gone seats full) where
            full_ok : Fits n clash (everyone n) (seating_of full)
            full_ok = subst (Fits n clash (everyone n)) (sym b.is) (back_fits n clash L valid (everyone n) rs steps (seating_of seats) seats_ok)

            pub standing : Standing most n full (length before)
            standing = record {
              few = few;
              bytes = room;
              below = λ x c. omega (arith, full_ok.below x c (lt→ltb x n c), b.room, few);
              sets = b.sets;
            }

            -- numbered, they are the described walk's
            full_alike : Alike n clash (everyone n) (back n clash (everyone n) rs (spread n l best)) (seating_of full)
            full_alike =
                subst (Alike n clash (everyone n) (back n clash (everyone n) rs (spread n l best))) (sym b.is)
                (back_alike n clash L valid (everyone n) rs steps (spread n l best) (seating_of seats) seats_alike spread_ok seats_ok)

            numbered : division ℕ_discrete n (at full.group) ≡ (shrunk_walk mycielskian n clash).best
            unfolding l
            numbered =
                division_agree n (at full.group) (at (back n clash (everyone n) rs (spread n l best)).group)
                (λ i c. sym (full_alike.group i c (lt→ltb i n c)))
                ∙ ap (λ (x : List Removal). division ℕ_discrete n
                (at (back n clash (everyone n) x (spread n (members (left (everyone n) x) n) best)).group)) w.went
                ∙ ap (whole L n clash) best_is

            pub shrunk_accepts : (j q : ℕ) → j ≡ cond s.few (max L k) k → q ≡ of_list clique_set rows
                → PromisedUpTo most (shrunk_walk mycielskian) rows before budget (Ok (record { k = j; nodes = f.nodes; leaves = f.leaves; clique = q }))
                (division ℕ_discrete n (at full.group) ++ drop n before)
            shrunk_accepts j q e shown = record {
              opened = opened;
              fewest = subst (Chromatic n clash) k_is (demands.shrunk_chromatic mycielskian mycielskian_bound n clash valid least);
              division = subst (Division n) (sym taken) (demands.shrunk_division mycielskian mycielskian_bound n clash valid least);
              free = subst (λ (x : List ℕ). T (clash_free n clash x)) (sym taken)
                  (demands.shrunk_free mycielskian mycielskian_bound n clash valid least);
              many = ap (groups 0) taken ∙ k_is;
              best = taken;
              count = p.count ∙ ap (λ (d : State). d.nodes) small_walk;
              complete = p.complete ∙ ap (λ (d : State). d.leaves) small_walk;
              paid = p.paid;
              shown = shown;
              kept = drop_at (division ℕ_discrete n (at full.group)) (drop n before) n long;
            }
              where
                long : length (division ℕ_discrete n (at full.group)) ≡ n
                long = ap length numbered ∙ (demands.shrunk_division mycielskian mycielskian_bound n clash valid least).long

                taken : take n (division ℕ_discrete n (at full.group) ++ drop n before) ≡ (shrunk_walk mycielskian n clash).best
                taken = take_at (division ℕ_discrete n (at full.group)) (drop n before) n long ∙ numbered

                k_is : walk.size (shrunk_walk mycielskian n clash) ≡ j
                k_is =
                    demands.shrunk_many mycielskian mycielskian_bound n clash valid least
                    ∙ ap₂ (λ (x : Bool) (y : ℕ). cond x (max L y) y) (sym w.second) (ap (groups 0) (sym best_is) ∙ best_many) ∙ sym e
