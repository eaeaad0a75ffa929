-- Laws of putting back, the last first: who is behind, in the order of removal, is back, and who is before it is not. Assumes nothing.
use mathlib.Core.Path.{◌≡◌, refl, sym, ap, ap₂, ◌∙◌, subst}
use mathlib.Core.Bool.{Bool, true, false, not, ◌&&◌, cond}
use mathlib.Core.List.{List, [], ◌∷◌, ◌++◌, append_assoc, append-nil}
use Prim.Native.Nat.{ℕ, suc, ◌+◌, ◌≤◌, ◌<◌, max}
use native.Mathlib.Decide.{ℕ_discrete}
use native.Mathlib.Omega.{arith}
use borrow.Author.Tests.{eq-eqb, ne_eqb}
use lib.Dec.{T, eqb, ltb→lt}
use lib.ListN.{length, get_or}
use Rattle.sets.proofs.TestLaws.{and_true}
use Rattle.sets.proofs.ListLaws.{table_suc}
use Rattle.clashes.specs.Matrix.{matrix}
use Rattle.clashes.specs.Divisions.{at}
use Rattle.shrink.specs.Rules.{Removal, covered, few, entry, without, left, everyone}
use Rattle.shrink.specs.Back.{Seating, into, home, put, back}
use Rattle.shrink.specs.Steps.{Allowed, Steps, Fits}
use Rattle.shrink.proofs.RuleLaws.{without_in, without_other, left_in, left_more, allowed_entry}
use Rattle.shrink.proofs.BackLaws.{back_fits, back_none, back_more}
use Rattle.removing.specs.Words.{removal, removal_of, nobody, removed}
use Rattle.removing.specs.declared.Goes.{Goes}
use Rattle.restoring.specs.Seats.{seating_of, Sets, Joined, Seat, Returning, Returned}
use Rattle.restoring.specs.declared.Seats.{Seats}
use Rattle.removing.proofs.ShrinkLaws.{removal_entry}
use Rattle.restoring.proofs.SeatLaws.{sets_joined, group_long, sets_long, home_is}

-- ---- removals in two parts

left_append : (p : ℕ → Bool) (xs ys : List Removal) → left p (xs ++ ys) ≡ left (left p xs) ys
left_append p [] ys = refl
left_append p (x ∷ xs) ys = left_append (without (entry x) p) xs ys

steps_behind : (L n : ℕ) (clash : ℕ → ℕ → Bool) (p : ℕ → Bool) (xs ys : List Removal) → Steps L n clash p (xs ++ ys) → Steps L n clash (left p xs) ys
steps_behind L n clash p [] ys g = g
steps_behind L n clash p (x ∷ xs) ys g = steps_behind L n clash (without (entry x) p) xs ys g.1

-- v is put back into one group
unfoldable pub seat_of : ℕ → (ℕ → ℕ → Bool) → (ℕ → Bool) → Seating → ℕ → ℕ → ℕ
seat_of n clash p s v u = cond (eqb v u) (home n clash p s v) (at s.group u)

put_seat : (n : ℕ) (clash : ℕ → ℕ → Bool) (p : ℕ → Bool) (s : Seating) (v u : ℕ) → put n clash p (removal v u) s ≡ into v (seat_of n clash p s v u) s
unfolding seat_of
put_seat n clash p s v u = go (eqb v u)
  where
    go : (b : Bool) → put n clash p (cond b (few v) (covered v u)) s ≡ into v (cond b (home n clash p s v) (at s.group u)) s
    go true = refl
    go false = refl

-- who is present when the first i of those who went have gone
abbrev pub here_at : List ℕ → List Goes → ℕ → ℕ → Bool
here_at rows went i = left (everyone (length rows)) (removed went i)

-- all but the first i are back
pub record Returns (cap : ℕ) (rows : List ℕ) (went : List Goes) (all : ℕ) (h : Seats) (i : ℕ) (now : Seats) : Type 0 where
  pub behind : List Removal
  pub split : removed went i ++ behind ≡ removed went all
  pub is : seating_of now ≡ back (length rows) (matrix rows) (here_at rows went i) behind (seating_of h)
  pub held : Sets cap (here_at rows went i) now.group now.sets
  pub room : now.many + i ≤ length rows
  pub long_group : length now.group ≡ cap
  pub long_sets : length now.sets ≡ cap

module _ (cap : ℕ) (rows : List ℕ) (went : List Goes) (all : ℕ) (h : Seats) (g : Returning cap rows went all h) where
  abbrev n : ℕ
  n = length rows

  abbrev clash : ℕ → ℕ → Bool
  clash = matrix rows

  abbrev gone : ℕ → List Removal
  gone i = removed went i

  abbrev here : ℕ → ℕ → Bool
  here i = here_at rows went i

  pub returns_start : Returns cap rows went all h all h
  returns_start = record {
    behind = [];
    split = append-nil (gone all);
    is = sym (back_none n clash (here all) (seating_of h));
    held = g.sets;
    room = g.room;
    long_group = g.long_group;
    long_sets = g.long_sets;
  }

  pub returns_end : (now : Seats) → Returns cap rows went all h 0 now → Returned cap rows went all h now
  returns_end now k = record {
    is = k.is ∙ ap (λ (rs : List Removal). back n clash (everyone n) rs (seating_of h)) k.split;
    sets = k.held;
    room = omega (arith, k.room);
  }

  module _ (i : ℕ) (now : Seats) (k : Returns cap rows went all h (suc i) now) where
    abbrev w : Goes
    w = get_or went i nobody

    abbrev v : ℕ
    v = w.who

    abbrev u : ℕ
    u = w.other

    abbrev r : Removal
    r = removal_of w

    abbrev cur : Seating
    cur = seating_of now

    one_more : gone (suc i) ≡ gone i ++ r ∷ []
    one_more = table_suc (λ j. removal_of (get_or went j nobody)) i

    here_without : ◌≡◌ {A = ℕ → Bool} (here (suc i)) (without v (here i))
    here_without =
        ap (left (everyone n)) one_more ∙ left_more (everyone n) (gone i) r ∙ ap (λ (x : ℕ). without x (here i)) (removal_entry v u)

    split : gone i ++ r ∷ k.behind ≡ gone all
    split = sym (append_assoc (gone i) (r ∷ []) k.behind) ∙ ap (λ (l : List Removal). l ++ k.behind) (sym one_more) ∙ k.split

    steps : Steps g.bound n clash (here i) (r ∷ k.behind)
    steps =
        steps_behind g.bound n clash (everyone n) (gone i) (r ∷ k.behind)
        (subst (Steps g.bound n clash (everyone n)) (sym split) g.steps)

    allowed : Allowed g.bound n clash (here i) r
    allowed = steps.0

    pub who_is : (v < n) × T (here i v)
    who_is = subst (λ (x : ℕ). (x < n) × T (here i x)) (removal_entry v u) (allowed_entry g.bound n clash (here i) r allowed)

    -- the seating without v
    fits : Fits n clash (here (suc i)) cur
    fits =
        subst (λ (t : Seating). Fits n clash (here (suc i)) t) (sym k.is)
        (back_fits n clash g.bound g.valid (here (suc i)) k.behind
        (steps_behind g.bound n clash (everyone n) (gone (suc i)) k.behind
        (subst (Steps g.bound n clash (everyone n)) (sym k.split) g.steps))
        (seating_of h)
        (subst (λ (q : ℕ → Bool). Fits n clash q (seating_of h))
        (ap (left (everyone n)) (sym k.split) ∙ left_append (everyone n) (gone (suc i)) k.behind) g.fits))

    -- an entry that is noted with itself, or another that is present
    pub other_is : (v ≡ u → ⊥) → (u < n) × T (here (suc i) u)
    other_is q = let a = subst (λ (x : Removal). Allowed g.bound n clash (here i) x) apart allowed in
        (a.other_below, subst (λ (p : ℕ → Bool). T (p u)) (sym here_without) (without_in v (here i) u a.other a.differ))
      where
        apart : r ≡ covered v u
        apart = ap (λ (b : Bool). cond b (few v) (covered v u)) (ne_eqb v u q)

    pub other_below : u < n
    other_below = go (ℕ_discrete v u)
      where
        go : Dec (v ≡ u) → u < n
        go (yes e) = subst (λ (x : ℕ). x < n) e who_is.0
        go (no q) = (other_is q).0

    entries : (x : ℕ) → T (here (suc i) x) → x < n
    entries x t = ltb→lt x n (left_in (everyone n) (gone (suc i)) x t)

    many_few : now.many ≤ cap
    many_few = omega (arith, k.room, g.few)

    -- the group that is found is the one that v is put into
    pub seat_is : (j : ℕ) → Seat rows w now j → (j ≤ now.many) × (j ≡ seat_of n clash (here (suc i)) cur v u)
    unfolding seat_of
    seat_is j f = go (ℕ_discrete v u)
      where
        go : Dec (v ≡ u) → (j ≤ now.many) × (j ≡ cond (eqb v u) (home n clash (here (suc i)) cur v) (at now.group u))
        go (yes e) = (
          (f.own e).most,
          home_is cap rows (here (suc i)) cur now.sets v entries k.held j many_few (f.own e)
              ∙ sym (ap (λ (b : Bool). cond b (home n clash (here (suc i)) cur v) (at now.group u)) (eq-eqb v u e)),
        )
        go (no q) = let o = other_is q in (
          omega (arith, f.other q, fits.below u o.0 o.1),
          f.other q ∙ sym (ap (λ (b : Bool). cond b (home n clash (here (suc i)) cur v) (at now.group u)) (ne_eqb v u q)),
        )

    pub returns_next : (j : ℕ) (h' : Seats) → Seat rows w now j → Joined v j now h'
        → Returns cap rows went all h i (record { many = max h'.many (j + 1); group = h'.group; sets = h'.sets })
    returns_next j h' found joins = record {
      behind = r ∷ k.behind;
      split = split;
      is =
          ap₂ (λ (x : ℕ) (q : List ℕ). record { many = x; group = q }) (let e : max h'.many (j + 1) ≡ max now.many (suc j) = omega (arith, joins.many) in e)
          joins.group
          ∙ ap (λ (x : ℕ). into v x cur) (seat_is j found).1
          ∙ sym (put_seat n clash (here (suc i)) cur v u)
          ∙ ap₂ (λ (p : ℕ → Bool) (c : Seating). put n clash p r c) (here_without ∙ ap (λ (x : ℕ). without x (here i)) (sym (removal_entry v u)))
          (k.is ∙ ap (λ (p : ℕ → Bool). back n clash p k.behind (seating_of h))
          (here_without ∙ ap (λ (x : ℕ). without x (here i)) (sym (removal_entry v u))))
          ∙ sym (back_more n clash (here i) r k.behind (seating_of h));
      held =
          sets_joined cap (here (suc i)) (here i) v j now h' joins k.held (omega (arith, k.long_group, who_is.0, g.few))
          (omega (arith, k.long_sets, k.room, g.few, (seat_is j found).0))
          (λ z. without_other v (here i) v (subst (λ (p : ℕ → Bool). T (p v)) here_without z) refl) who_is.1
          (λ x q. sym ((λ y. here_without y x) ∙ ap (λ (b : Bool). here i x && not b) (ne_eqb v x (λ z. q (sym z))) ∙ and_true (here i x)));
      room = omega (arith, k.room, (seat_is j found).0, joins.many);
      long_group = group_long cap (here (suc i)) (here i) v j now h' joins ∙ k.long_group;
      long_sets = sets_long cap (here (suc i)) (here i) v j now h' joins ∙ k.long_sets;
    }
