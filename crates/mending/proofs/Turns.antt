-- One turn of a loop over a sheet's lines: going through it, and the lines that are dropped.
--
--   Along  : the rest of the sheet, with what is known, comes to what the whole comes to
--   Turned : with what is known next, it comes to what it came to
use Prim.Native.Nat.{ℕ, ◌+◌, ◌-◌, ◌≤◌, ◌<◌}
use mathlib.Core.Path.{◌≡◌, refl, sym, ap, subst, ◌∙◌}
use mathlib.Core.List.{List, []}
use mathlib.Core.Bool.{Bool, true, false, cond, not}
use native.Mathlib.Omega.{arith}
use lib.ListN.{length, take, drop, length-append, drop_of_length-le}
use Rattle.std.specs.Result.{MatchResult, IsErrAnd}
use Rattle.std.proofs.lemmas.Result.{err_from_is_err_and}
use Rattle.std.specs.Prelude.{Option, Some, Result, Ok, Err}
use Rattle.sets.specs.Lists.{put}
use Rattle.sets.specs.Set.{has}
use Rattle.clashes.specs.Matrix.{matrix}
use Rattle.lines.specs.Text.{Text, lines_of, line_end_lem}
use Rattle.lines.specs.Numeral.{one_line}
use Rattle.lines.proofs.Lines.{line_ended, line_unended}
use Rattle.sheets.specs.declared.Refused.{Refused}
use Rattle.sheets.specs.declared.SheetFault.{SheetFault}
use Rattle.sheets.specs.declared.SheetFault.TheVariants.{Line, Extra, Ends}
use Rattle.mends.specs.declared.Counts.{Counts}
use Rattle.mends.specs.declared.Step.{Step}
use Rattle.mends.specs.declared.Step.TheVariants.{Groups, Size, Member}
use Rattle.mends.specs.Typed.{Typed, is, faulty, member, group, after, step_of, met, typed_from, typed_of, start as no_counts}
use Rattle.mends.specs.Mend.{Going, taken, sees, member_of_lem, closed, start as nothing_gone}
use Rattle.mends.specs.Report.{dropped_word, dropped_text}
use Rattle.mends.proofs.Seen.{member_seen}
use Rattle.mending.specs.Held.{going_of, FitsAt, MemberedAt, cut_of, drops_of, dropped_at, dropped_of, run, ThroughOf}
use Rattle.mending.specs.declared.Gone.{Gone}
use Rattle.mending.proofs.HeldLaws.{drops_most}

abbrev pub step_ok : Step → Result Step SheetFault
step_ok st = Ok st

-- what a line is, where its fault is passed up with its line
module _ (Q : SheetFault → Refused → Type 0) (r : Result Step SheetFault) (m : Result Step Refused) where
  pub mapped_ok : (x : Step) → MatchResult r (λ y. m ≡ Ok y) (λ f. IsErrAnd m (Q f)) → m ≡ Ok x → r ≡ Ok x
  mapped_ok x h e = go r h
    where
      go : (r : Result Step SheetFault) → MatchResult r (λ y. m ≡ Ok y) (λ f. IsErrAnd m (Q f)) → r ≡ Ok x
      go (Ok y) h = let z : ◌≡◌ {A = Result Step Refused} (Ok y) (Ok x) = sym h ∙ e in cc
      go (Err f) h = let p = err_from_is_err_and m h in let z : ◌≡◌ {A = ℕ} 0 1 = cc in absurd (omega arith)

  pub mapped_err : (w : Refused) → MatchResult r (λ y. m ≡ Ok y) (λ f. IsErrAnd m (Q f)) → m ≡ Err w → (f : SheetFault) × (r ≡ Err f) × Q f w
  mapped_err w h e = go r h
    where
      go : (r : Result Step SheetFault) → MatchResult r (λ y. m ≡ Ok y) (λ f. IsErrAnd m (Q f)) → (f : SheetFault) × (r ≡ Err f) × Q f w
      go (Ok y) h = let z : ◌≡◌ {A = ℕ} 0 1 = cc in absurd (omega arith)
      go (Err f) h =
          let p = err_from_is_err_and m h in
          let z : ◌≡◌ {A = Result Step Refused} (Err p.0) (Err w) = sym p.1 ∙ e in
          let y : p.0 ≡ w = cc in
          (f, refl, subst (Q f) y p.2)

-- ---- what comes of the rest

module _ (n : ℕ) (clash : ℕ → ℕ → Bool) (g : Going) where
  run_member : (u : ℕ) (t : Typed) → run n clash g (member u t) ≡ run n clash (member_of_lem n clash g u) t
  run_member u (is us gs) = refl
  run_member u (faulty f k) = refl

  run_group : (t : Typed) → run n clash g (group t) ≡ run n clash (closed n g) t
  run_group (is us gs) = refl
  run_group (faulty f k) = refl

-- ---- the loop's places

module _ (s : List ℕ) (a k : ℕ) (c : Option Counts) where
  module _ (l : length s ≤ a) where
    pub ends_typed : typed_from (lines_of (drop a s)) k c ≡ cond (met c) (is [] []) (faulty Ends k)
    ends_typed = rw (drop_of_length-le s l)

    pub ends_drops : (n : ℕ) (seen : ℕ → Bool) → dropped_at n (lines_of (drop a s)) k c seen ≡ []
    ends_drops n seen = rw (drop_of_length-le s l)

  module _ (e : ℕ) (q : e ≡ line_end_lem s a) where
    module _ (i : a < length s) (l : length s ≤ e) where
      pub halts_typed : typed_from (lines_of (drop a s)) k c ≡ faulty (cut_of c) k
      halts_typed = ap (λ (t : Text). typed_from t k c) (line_unended s a e q i l) ∙ cut (met c)
        where
          cut : (b : Bool) → cond b (faulty Extra k) (faulty Line k) ≡ faulty (cond b Extra Line) k
          cut true = refl
          cut false = refl

      pub halts_drops : (n : ℕ) (seen : ℕ → Bool) → dropped_at n (lines_of (drop a s)) k c seen ≡ []
      halts_drops n seen = ap (λ (t : Text). dropped_at n t k c seen) (line_unended s a e q i l)

    -- a line that is ended at e, and what it is
    module _ (l : e < length s) (st : Result Step SheetFault) (x : step_of c (take (e - a) (drop a s)) ≡ st) where
      pub turn_typed : typed_from (lines_of (drop a s)) k c ≡ after st k (typed_from (lines_of (drop (e + 1) s)) (k + 1))
      turn_typed =
          ap (λ (t : Text). typed_from t k c) (line_ended s a e q l)
          ∙ ap (λ (y : Result Step SheetFault). after y k (typed_from (lines_of (drop (e + 1) s)) (k + 1))) x

      pub turn_drops : (n : ℕ) (seen : ℕ → Bool) → dropped_at n (lines_of (drop a s)) k c seen ≡ drops_of n st k seen (dropped_at n (lines_of (drop (e + 1) s)) (k + 1))
      turn_drops n seen =
          ap (λ (t : Text). dropped_at n t k c seen) (line_ended s a e q l)
          ∙ ap (λ (y : Result Step SheetFault). drops_of n y k seen (dropped_at n (lines_of (drop (e + 1) s)) (k + 1))) x

-- nothing more of the report comes from a line with a fault
pub fault_drops : (n : ℕ) (st : Result Step SheetFault) → ((x : Step) → st ≡ Ok x → ⊥) → (k : ℕ) (seen : ℕ → Bool) (next : Option Counts → (ℕ → Bool) → List ℕ)
    → drops_of n st k seen next ≡ []
fault_drops n (Err f) h k seen next = refl
fault_drops n (Ok x) h k seen next = absurd (h x refl)

-- ---- going through

-- one line more of the report
put_length : (b : Bool) (k : ℕ) (ls : List ℕ) → length (dropped_text (put b k ls)) ≡ length (dropped_text (put b k [])) + length (dropped_text ls)
put_length true k ls = omega (arith, length-append (one_line dropped_word k) (dropped_text ls), length-append (one_line dropped_word k) [])
put_length false k ls = omega arith

pub record Along (cap n : ℕ) (rows s : List ℕ) (a k : ℕ) (c : Option Counts) (g : Gone) : Type 0 where
  pub fits : FitsAt cap n g
  pub ran : run n (matrix rows) (going_of g) (typed_from (lines_of (drop a s)) k c) ≡ run n (matrix rows) nothing_gone (typed_of (lines_of s))
  pub drops : g.bytes + length (dropped_text (dropped_at n (lines_of (drop a s)) k c (has g.seen))) ≡ length (dropped_text (dropped_of n s))

-- at the start
pub along_start : (n : ℕ) (rows s : List ℕ) (g : Gone) → (going_of g ≡ nothing_gone) × FitsAt 64 n g × (g.bytes ≡ 0) → Along 64 n rows s 0 1 no_counts g
along_start n rows s g p = record {
  fits = p.1;
  ran = ap (λ (y : Going). run n (matrix rows) y (typed_of (lines_of s))) p.0;
  drops = omega (arith, p.2, ap (λ (y : Going). length (dropped_text (dropped_at n (lines_of s) 1 no_counts y.seen))) p.0);
}

-- ways out
module _ (n : ℕ) (rows s : List ℕ) (a k : ℕ) (c : Option Counts) (g : Gone) (p : Along 64 n rows s a k c g) where
  fails : (f : SheetFault) → typed_from (lines_of (drop a s)) k c ≡ faulty f k → ThroughOf n (matrix rows) s (Err (record { why = f; line = k }))
  fails f e = record { ran = sym (ap (run n (matrix rows) (going_of g)) e) ∙ p.ran; held = tt }

  module _ (l : length s ≤ a) where
    pub out_whole : met c ≡ true → g.bytes ≤ 1048576 → (r : Gone) → (going_of r ≡ closed n (going_of g)) × FitsAt 64 n r × (r.bytes ≡ g.bytes)
        → ThroughOf n (matrix rows) s (Ok r)
    out_whole m h r q = record {
      ran =
          ap (λ (y : Going). let r : Result Going Refused = Ok y in r) q.0
          ∙ sym (ap (run n (matrix rows) (going_of g)) (ends_typed s a k c l ∙ ap (λ (b : Bool). cond b (is [] []) (faulty Ends k)) m))
          ∙ p.ran;
      held = (
        q.1,
        omega (arith, q.2, p.drops, ap (λ (ls : List ℕ). length (dropped_text ls)) (ends_drops s a k c l n (has g.seen))),
        omega (arith, q.2),
      );
    }

    pub out_short : met c ≡ false → ThroughOf n (matrix rows) s (Err (record { why = Ends; line = k }))
    out_short m = fails Ends (ends_typed s a k c l ∙ ap (λ (b : Bool). cond b (is [] []) (faulty Ends k)) m)

  module _ (e : ℕ) (q : e ≡ line_end_lem s a) where
    pub out_halts : a < length s → length s ≤ e → (f : SheetFault) → f ≡ cut_of c → ThroughOf n (matrix rows) s (Err (record { why = f; line = k }))
    out_halts i l f z = fails f (halts_typed s a k c e q i l ∙ ap (λ (y : SheetFault). faulty y k) (sym z))

    pub out_stops : e < length s → (f : SheetFault) → step_of c (take (e - a) (drop a s)) ≡ Err f → ThroughOf n (matrix rows) s (Err (record { why = f; line = k }))
    out_stops l f x = fails f (turn_typed s a k c e q l (Err f) x)

module _ (cap n : ℕ) (rows s : List ℕ) (a e k : ℕ) (c : Option Counts) (g : Gone) (q : e ≡ line_end_lem s a) (l : e < length s) where
  pub record Turned (c' : Option Counts) (g' : Gone) : Type 0 where
    pub fits : FitsAt cap n g'
    pub bytes : g'.bytes ≤ g.bytes + 16
    pub ran : run n (matrix rows) (going_of g') (typed_from (lines_of (drop (e + 1) s)) (k + 1) c') ≡ run n (matrix rows) (going_of g) (typed_from (lines_of (drop a s)) k c)
    pub drops : g'.bytes + length (dropped_text (dropped_at n (lines_of (drop (e + 1) s)) (k + 1) c' (has g'.seen)))
        ≡ g.bytes + length (dropped_text (dropped_at n (lines_of (drop a s)) k c (has g.seen)))

  pub turned_groups : FitsAt cap n g → (d : Counts) → step_of c (take (e - a) (drop a s)) ≡ Ok (Groups d) → (c' : Option Counts) (g' : Gone) → c' ≡ Some d → g' ≡ g → Turned c' g'
  turned_groups f d x c' g' ec eg =
      rw (ec, eg) (record {
        fits = f;
        bytes = omega arith;
        ran = ap (run n (matrix rows) (going_of g)) (sym (turn_typed s a k c e q l (Ok (Groups d)) x));
        drops = ap (λ (ls : List ℕ). g.bytes + length (dropped_text ls)) (sym (turn_drops s a k c e q l (Ok (Groups d)) x n (has g.seen)));
      })

  pub turned_size : (d : Counts) → step_of c (take (e - a) (drop a s)) ≡ Ok (Size d)
      → (r : Gone) → (going_of r ≡ closed n (going_of g)) × FitsAt cap n r × (r.bytes ≡ g.bytes) → (c' : Option Counts) (g' : Gone) → c' ≡ Some d → g' ≡ r → Turned c' g'
  turned_size d x r p c' g' ec eg =
      let t = typed_from (lines_of (drop (e + 1) s)) (k + 1) (Some d) in
      rw (ec, eg) (record {
        fits = p.1;
        bytes = omega (arith, p.2);
        ran =
            ap (λ (y : Going). run n (matrix rows) y t) p.0
            ∙ sym (run_group n (matrix rows) (going_of g) t)
            ∙ ap (run n (matrix rows) (going_of g)) (sym (turn_typed s a k c e q l (Ok (Size d)) x));
        drops =
            ap (λ (b : ℕ). b + length (dropped_text (dropped_at n (lines_of (drop (e + 1) s)) (k + 1) (Some d) (has r.seen)))) p.2
            ∙ ap (λ (y : Going). g.bytes + length (dropped_text (dropped_at n (lines_of (drop (e + 1) s)) (k + 1) (Some d) y.seen))) p.0
            ∙ ap (λ (ls : List ℕ). g.bytes + length (dropped_text ls)) (sym (turn_drops s a k c e q l (Ok (Size d)) x n (has g.seen)));
      })

  pub turned_member : (d : Counts) (u : ℕ) → step_of c (take (e - a) (drop a s)) ≡ Ok (Member d u)
      → (r : Gone) → MemberedAt cap n rows g k u r → (c' : Option Counts) (g' : Gone) → c' ≡ Some d → g' ≡ r → Turned c' g'
  turned_member d u x r p c' g' ec eg =
      let t = typed_from (lines_of (drop (e + 1) s)) (k + 1) (Some d) in
      let z = ap (λ (y : Going). y.seen) p.0 ∙ member_seen n (matrix rows) (going_of g) u in
      let ls = dropped_at n (lines_of (drop (e + 1) s)) (k + 1) (Some d) (sees n (has g.seen) u) in
      rw (ec, eg) (record {
        fits = p.1;
        bytes = omega (arith, p.2, drops_most n (has g.seen) k u);
        ran =
            ap (λ (y : Going). run n (matrix rows) y t) p.0
            ∙ sym (run_member n (matrix rows) (going_of g) u t)
            ∙ ap (run n (matrix rows) (going_of g)) (sym (turn_typed s a k c e q l (Ok (Member d u)) x));
        drops =
            ap (λ (y : ℕ → Bool). r.bytes + length (dropped_text (dropped_at n (lines_of (drop (e + 1) s)) (k + 1) (Some d) y))) z
            ∙ omega (
              arith,
              p.2,
              put_length (not (taken n (has g.seen) u)) k ls,
              ap (λ (y : List ℕ). length (dropped_text y)) (turn_drops s a k c e q l (Ok (Member d u)) x n (has g.seen)),
            );
      })

  pub turned_along : Along cap n rows s a k c g → (c' : Option Counts) (g' : Gone) → Turned c' g' → Along cap n rows s (e + 1) (k + 1) c' g'
  turned_along p c' g' t = record { fits = t.fits; ran = t.ran ∙ p.ran; drops = t.drops ∙ p.drops }
