-- `restoring::put_back` meets its contract: those who are still to be put back are the first who went. Assumes nothing.
use mathlib.Core.Path.{◌≡◌, refl, sym, ap, ◌∙◌, subst}
use mathlib.Core.List.{List, [], ◌∷◌, ◌++◌}
use Prim.Native.Nat.{ℕ, suc, ◌≤◌, ◌<◌}
use native.Mathlib.Numerals.{add-one}
use native.Mathlib.Omega.{arith}
use borrow.Author.Rules.{rules}
use lib.ListN.{length, get_or, take, length-append, length-take}
use lib.Seq.{take_at, get_or-take, take-take}
use Rattle.removing.specs.Words.{nobody}
use Rattle.removing.specs.declared.Goes.{Goes}
use Rattle.restoring.specs.Seats.{Seat, Joined}
use Rattle.restoring.proofs.ReturnLaws.{Returns, returns_start, returns_next, returns_end, who_is, other_below, seat_is}
use Rattle.restoring.proofs.put_back.Goals as goal
use Rattle.restoring.proofs.put_back.Goals.{In-Some}

last_of : (l : List Goes) (x d : Goes) → get_or (l ++ x ∷ []) (length l) d ≡ x
last_of [] x d = refl
last_of (y ∷ l) x d = last_of l x d

-- the last of the first is the one that is put back next
record Last (went rest rest' : List Goes) (x : Goes) : Type 0 where
  before : rest' ≡ take (length rest') went
  is : x ≡ get_or went (length rest') nobody
  many : length rest ≡ suc (length rest')

last : (went rest rest' : List Goes) (x : Goes) → rest ≡ rest' ++ x ∷ [] → rest ≡ take (length rest) went → Last went rest rest' x
last went rest rest' x e f = record { before = before; is = is; many = many }
  where
    many : length rest ≡ suc (length rest')
    many = ap length e ∙ length-append rest' (x ∷ []) ∙ add-one (length rest')

    whole : take (suc (length rest')) went ≡ rest' ++ x ∷ []
    whole = ap (λ (k : ℕ). take k went) (sym many) ∙ sym f ∙ e

    before : rest' ≡ take (length rest') went
    before =
        sym (take_at rest' (x ∷ []) (length rest') refl) ∙ ap (take (length rest')) (sym whole)
        ∙ take-take (length rest') (suc (length rest')) went (omega arith)

    is : x ≡ get_or went (length rest') nobody
    is =
        sym (last_of rest' x nobody) ∙ ap (λ (l : List Goes). get_or l (length rest') nobody) (sym whole)
        ∙ get_or-take (suc (length rest')) went (length rest') nobody (omega arith)

pub loop-goes-init : goal.loop-goes-init
loop-goes-init c =
    let a = c.args in
    let s = a.s in
    let e : c.into_iter-goes-iterator.result.iter.rest.now ≡ take s.gone s.went = search rules in
    let n : length (take s.gone s.went) ≡ s.gone = omega (arith, length-take {A = Goes}) in
    let m : length c.into_iter-goes-iterator.result.iter.rest.now ≡ s.gone = ap length e ∙ n in
    record {
      first = e ∙ ap (λ (k : ℕ). take k s.went) (sym m);
      back = subst (λ (i : ℕ). Returns 64 a.rows.now s.went s.gone a.seats i a.seats) (sym m) (returns_start 64 a.rows.now s.went s.gone a.seats c.requires);
    }

-- who is put back next
next : (c : In-Some) → Last c.args.s.went c.loop-goes.goes-iterator.iter.rest.now c.next.new.self.iter.rest.now c.in-Some.field-0.now
next c = last _ _ _ _ c.in-Some.ensures.steps c.loop-goes.invariant.first

-- all but it and those before it are back
back : (c : In-Some)
    → let a = c.args in
    Returns 64 a.rows.now a.s.went a.s.gone a.seats (suc (length c.next.new.self.iter.rest.now)) c.loop-goes.seats
back c =
    let a = c.args in
    subst (λ (i : ℕ). Returns 64 a.rows.now a.s.went a.s.gone a.seats i c.loop-goes.seats) (next c).many c.loop-goes.invariant.back

-- it is an entry, as the other that was noted is, and there is room for one more group
inside : (c : In-Some)
    → let n = length c.args.rows.now in
    let g = c.in-Some.field-0.now in
    (g.who < n) × (g.other < n) × (n ≤ 64) × (c.loop-goes.seats.many < n)
inside c =
    let a = c.args in
    let b = back c in
    let i = length c.next.new.self.iter.rest.now in
    let h = c.loop-goes.seats in
    let n = length a.rows.now in (
      subst (λ (g : Goes). g.who < n) (sym (next c).is) (who_is 64 a.rows.now a.s.went a.s.gone a.seats c.requires i h b).0,
      subst (λ (g : Goes). g.other < n) (sym (next c).is) (other_below 64 a.rows.now a.s.went a.s.gone a.seats c.requires i h b),
      c.requires.few,
      omega (arith, b.room),
    )

-- the group that is found is one of those there are, or the next
found : (c : In-Some) (j : ℕ) → Seat c.args.rows.now c.in-Some.field-0.now c.loop-goes.seats j
    → Seat c.args.rows.now (get_or c.args.s.went (length c.next.new.self.iter.rest.now) nobody) c.loop-goes.seats j × (j < 64)
found c j s =
    let a = c.args in
    let i = length c.next.new.self.iter.rest.now in
    let h = c.loop-goes.seats in
    let w = subst (λ (g : Goes). Seat a.rows.now g h j) (next c).is s in
    let b = inside c in
    (w, omega (arith, b.3, b.2, (seat_is 64 a.rows.now a.s.went a.s.gone a.seats c.requires i h (back c) j w).0))

pub seat-j-requires : goal.seat-j-requires
seat-j-requires c = let i = inside (goal.at.seat-j-requires c).In-Some in (i.0, omega arith, omega arith)

pub join-requires : goal.join-requires
join-requires c =
    let p = (goal.at.join-requires c).In-Some in
    let i = inside p in
    (omega arith, (found p c.seat-j.result c.seat-j.ensures).1)

pub overflow_add-j : goal.overflow_add-j
overflow_add-j c = let b = found (goal.at.overflow_add-j c).In-Some c.seat-j.result c.seat-j.ensures in omega arith

pub loop-goes-preserved : goal.loop-goes-preserved
loop-goes-preserved c =
    let a = c.args in
    let p = (goal.at.loop-goes-preserved c).In-Some in
    let q = next p in
    let i = length c.next.new.self.iter.rest.now in
    let j = c.seat-j.result in
    let h = c.join.new.self in
    record {
      first = q.before;
      back = rw c.max.ensures (returns_next 64 a.rows.now a.s.went a.s.gone a.seats c.requires i c.loop-goes.seats (back p) j h (found p j c.seat-j.ensures).0
          (subst (λ (g : Goes). Joined g.who j c.loop-goes.seats h) q.is c.join.ensures));
    }

pub returns : goal.returns
returns c =
    let a = c.args in
    let h = c.loop-goes.seats in
    returns_end 64 a.rows.now a.s.went a.s.gone a.seats c.requires h
    (subst (λ (i : ℕ). Returns 64 a.rows.now a.s.went a.s.gone a.seats i h) c.in-None.ensures.steps.0 c.loop-goes.invariant.back)
