-- What `write_sheet` writes, given to `check_sheet`, from the two promises alone: accepted with the same k and the same bytes against every list
-- that it does not clash with, and refused as 34 at its first clash, with nothing written, against any other.
use Prim.Native.Nat.{ℕ, ◌+◌, ◌≤◌, ◌<◌}
use mathlib.Core.Path.{◌≡◌, refl, sym, ap, subst, ◌∙◌}
use mathlib.Core.List.{List, ◌++◌}
use mathlib.Core.Bool.{Bool, true, false, cond}
use mathlib.Core.Option.{some}
use native.Mathlib.Decide.{dec_lt}
use native.Mathlib.Omega.{arith}
use borrow.Author.Tests.{le-leb, leb-true}
use lib.Dec.{T, leb}
use lib.ListN.{length, take, drop, get_or-eq_default}
use lib.Seq.{take_at, get_or-take}
use Rattle.std.specs.Prelude.{Result, Ok, Err}
use Rattle.sets.specs.Set.{has}
use Rattle.sets.proofs.SetLaws.{has_none}
use Rattle.clashes.specs.Divisions.{Canon, groups, clash_free}
use Rattle.clashes.specs.Matrix.{matrix, Valid, SoundUpTo}
use Rattle.clashes.proofs.MatrixLaws.{sound_valid}
use Rattle.lists.specs.Read.{read_up_to, most_entries, longest_text, read_of}
use Rattle.lists.specs.declared.Gathered.{Gathered}
use Rattle.lists.specs.declared.Unread.{Unread}
use Rattle.lists.proofs.ReadSound.{read_up_to_sound}
use Rattle.sheets.specs.Check.{on_line, of_sheet, sheet_up_to, against_up_to, check_up_to, accepted, refused, sheet_of, check_of}
use Rattle.sheets.specs.Promise.{answer_in, written_of, CheckPromiseUpTo, CheckPromise}
use Rattle.sheets.specs.declared.SheetFault.TheVariants.{Clash}
use Rattle.sheets.specs.declared.Refused.{Refused}
use Rattle.sheets.specs.declared.Division.{Division}
use Rattle.sheets.specs.declared.Unchecked.{Unchecked}
use Rattle.sheets.specs.declared.Unchecked.TheVariants.{OfSheet}
use Rattle.sheet_texts.specs.Sheet.{numbering, sheet_text, clash_line}
use Rattle.sheet_texts.specs.Promise.{judged, written, WritePromiseUpTo, WritePromise}
use Rattle.sheet_texts.specs.declared.Unwritten.{Unwritten}
use Rattle.sheet_texts.specs.declared.Unwritten.TheVariants.{Many, Full}
use Rattle.sheet_texts.proofs.FirstUse.{used_is}
use Rattle.sheet_texts.proofs.Lengths.{sheet_fits, sheet_most}
use Rattle.sheet_texts.proofs.ReadBack.{found, sheet_up_to_read}
use Rattle.sheet_texts.proofs.FirstClash.{free_none, clash_some}

-- ---- over the definitions

module _ (most longest : ℕ) (c : List ℕ) (canon : Canon 0 c) (few : length c ≤ most) (sevens : length c < 10000000) (short : length (sheet_text c) ≤ longest) (clash : ℕ → ℕ → Bool) where
  pub read_up_to_free : T (clash_free (length c) clash c) → (w : List ℕ) × (take (length c) w ≡ c) × (sheet_up_to most longest (length c) clash (sheet_text c) ≡ accepted (length c) (groups 0 c) w)
  read_up_to_free t = let r = sheet_up_to_read most c canon few sevens clash longest short in (r.0, r.1, r.2 ∙ ap (λ x. found x (accepted (length c) (groups 0 c) r.0)) (free_none clash c canon t))

  pub read_up_to_clash : Valid (length c) clash → ¬ T (clash_free (length c) clash c) → (k : ℕ) × (clash_line clash c ≡ some k) × (sheet_up_to most longest (length c) clash (sheet_text c) ≡ refused Clash k)
  read_up_to_clash v h =
      let r = sheet_up_to_read most c canon few sevens clash longest short in
      let s = clash_some clash c canon v h in
      (s.0, s.1, r.2 ∙ ap (λ x. found x (accepted (length c) (groups 0 c) r.0)) s.1)

-- ---- what was written

module _ (most : ℕ) where
  pub record Wrote (c : List ℕ) (k : ℕ) (out : List ℕ) : Type 0 where
    pub canon : Canon 0 c
    pub few : length c ≤ most
    pub long : k ≡ length (sheet_text c)
    pub text : take k out ≡ sheet_text c

  pub wrote_is : (c old : List ℕ) (k : ℕ) (out : List ℕ) → WritePromiseUpTo most c old (Ok k) out → Wrote c k out
  wrote_is c old k out w = go (leb (length c) most) refl w.answer w.lent
    where
      fits : (b : Bool) → Ok k ≡ cond b (Ok (length (sheet_text c))) (Err Full) → out ≡ written (cond b (Ok (length (sheet_text c))) (Err Full)) (sheet_text c) old
          → (k ≡ length (sheet_text c)) × (take k out ≡ sheet_text c)
      fits true a l =
          let e : k ≡ length (sheet_text c) = cc in
          (e, ap (take k) l ∙ take_at (sheet_text c) (drop (0 + length (sheet_text c)) old) k (sym e))
      fits false a l = absurd (cc)

      numbered : length c ≤ most → (v : Result ℕ ℕ) → numbering c ≡ v → Ok k ≡ judged v (sheet_text c) (length old) → out ≡ written (judged v (sheet_text c) (length old)) (sheet_text c) old → Wrote c k out
      numbered h (Err i) e a l = absurd (cc)
      numbered h (Ok m) e a l =
          let f = fits (leb (length (sheet_text c)) (length old)) a l in
          record { canon = (used_is 0 0 c m e).0; few = h; long = f.0; text = f.1 }

      go : (b : Bool) → leb (length c) most ≡ b → Ok k ≡ cond b (judged (numbering c) (sheet_text c) (length old)) (Err Many)
          → out ≡ written (cond b (judged (numbering c) (sheet_text c) (length old)) (Err Many)) (sheet_text c) old → Wrote c k out
      go true e a l = numbered (leb-true (length c) most e) (numbering c) refl a l
      go false e a l = absurd (cc)

-- ---- the list that is read

module _ (plain : Bool) (most longest : ℕ) (list : List ℕ) (f : Gathered) (e : read_up_to plain most longest list most ≡ Ok f) where
  same : (x y : ℕ) → x < f.n → matrix (take f.n f.rows) x y ≡ matrix f.rows x y
  same x y h = ap (λ (r : ℕ). has r y) (get_or-take f.n f.rows x 0 h)

  -- a row that clashes is one of those that were read
  row_read : (x y : ℕ) → x < f.n → T (matrix f.rows x y) → x < length (take f.n f.rows)
  row_read x y h t = go (dec_lt x (length (take f.n f.rows)))
    where
      go : Dec (x < length (take f.n f.rows)) → x < length (take f.n f.rows)
      go (yes l) = l
      go (no l) = absurd (subst T (sym (same x y h) ∙ ap (λ (r : ℕ). has r y) (get_or-eq_default (take f.n f.rows) 0 (omega arith)) ∙ has_none y) t)

  pub list_up_to_valid : Valid f.n (matrix f.rows)
  list_up_to_valid =
      let s = read_up_to_sound plain most longest list most f e in
      let v = sound_valid (take f.n f.rows) s in
      record {
        no_self = λ x h t. v.no_self x (row_read x x h t) (subst T (sym (same x x h)) t);
        both_ways = λ x y h k t. let l = row_read x y h t in let u = subst T (sym (same x y h)) t in subst T (same y x k) (v.both_ways x y l (partner s x y l u (dec_lt y (length (take f.n f.rows)))) u);
      }
    where
      partner : SoundUpTo most (take f.n f.rows) → (x y : ℕ) → x < length (take f.n f.rows) → T (matrix (take f.n f.rows) x y) → Dec (y < length (take f.n f.rows)) → y < length (take f.n f.rows)
      partner s x y l t (yes b) = b
      partner s x y l t (no b) = absurd (s.apart.inside.no_stray x l (y, omega arith, t))

  pub checked_up_to_is : (s : List ℕ) (room : ℕ) → f.n ≤ room → check_up_to plain most longest list s room ≡ of_sheet (sheet_up_to most longest f.n (matrix f.rows) s)
  checked_up_to_is s room h = ap (λ (a : Result Gathered Unread). against_up_to most longest a s room) e ∙ rw (le-leb f.n room h)

-- ---- the two calls

module _ (plain : Bool) (most longest : ℕ) (c old : List ℕ) (sevens : length c < 10000000) (short : length (sheet_text c) ≤ longest) (k : ℕ) (out list lent : List ℕ) (a : Result ℕ Unchecked)
    (new : List ℕ) (w : WritePromiseUpTo most c old (Ok k) out) (x : CheckPromiseUpTo plain most longest list (take k out) lent a new)
    (f : Gathered) (e : read_up_to plain most longest list most ≡ Ok f) (size : f.n ≡ length c) (room : length c ≤ length lent) where
  outcome : (o : Result Division Refused) → sheet_up_to most longest (length c) (matrix f.rows) (sheet_text c) ≡ o
      → (a ≡ answer_in (of_sheet o)) × (new ≡ written_of (of_sheet o) lent)
  outcome o q =
      let p =
      ap (λ (s : List ℕ). check_up_to plain most longest list s (length lent)) (wrote_is most c old k out w).text
      ∙ checked_up_to_is plain most longest list f e (sheet_text c) (length lent) (omega arith)
      ∙ ap (λ (m : ℕ). of_sheet (sheet_up_to most longest m (matrix f.rows) (sheet_text c))) size
      ∙ ap of_sheet q in
      (x.answer ∙ ap answer_in p, x.lent ∙ ap (λ (y : Result Division Unchecked). written_of y lent) p)

  -- a clash-free division is accepted, with the same k and the same bytes
  pub calls_up_to_free : T (clash_free (length c) (matrix f.rows) c) → (a ≡ Ok (groups 0 c)) × (new ≡ c ++ drop (length c) lent)
  calls_up_to_free t =
      let r = wrote_is most c old k out w in
      let g = read_up_to_free most longest c r.canon r.few sevens short (matrix f.rows) t in
      let o = outcome _ g.2 in
      (o.0, o.1 ∙ ap (λ (y : List ℕ). y ++ drop (length c) lent) g.1)

  -- any other is refused as 34 at its first clash, and nothing is written
  pub calls_up_to_clash : ¬ T (clash_free (length c) (matrix f.rows) c)
      → (l : ℕ) × (clash_line (matrix f.rows) c ≡ some l) × (a ≡ Err (OfSheet (on_line Clash l))) × (new ≡ lent)
  calls_up_to_clash h =
      let r = wrote_is most c old k out w in
      let v = subst (λ (m : ℕ). Valid m (matrix f.rows)) size (list_up_to_valid plain most longest list f e) in
      let g = read_up_to_clash most longest c r.canon r.few sevens short (matrix f.rows) v h in
      let o = outcome _ g.2 in
      (g.0, g.1, o.0, o.1)

-- ---- with today's limits

pub read_free : (c : List ℕ) → Canon 0 c → length c ≤ most_entries → (clash : ℕ → ℕ → Bool) → T (clash_free (length c) clash c)
    → (w : List ℕ) × (take (length c) w ≡ c) × (sheet_of (length c) clash (sheet_text c) ≡ accepted (length c) (groups 0 c) w)
read_free c canon few = read_up_to_free most_entries longest_text c canon few (omega arith) (sheet_fits c canon few)

pub list_valid : (plain : Bool) (list : List ℕ) (f : Gathered) → read_of plain list most_entries ≡ Ok f → Valid f.n (matrix f.rows)
list_valid plain = list_up_to_valid plain most_entries longest_text

pub checked_is : (plain : Bool) (list : List ℕ) (f : Gathered) → read_of plain list most_entries ≡ Ok f → (s : List ℕ) (room : ℕ) → f.n ≤ room
    → check_of plain list s room ≡ of_sheet (sheet_of f.n (matrix f.rows) s)
checked_is plain = checked_up_to_is plain most_entries longest_text

-- the C header's figure
pub write_most : (c old : List ℕ) (k : ℕ) (out : List ℕ) → WritePromise c old (Ok k) out → k ≤ 641
write_most c old k out w = let x = wrote_is most_entries c old k out w in omega (arith, x.long, sheet_most c x.canon x.few)

module _ (plain : Bool) (c old : List ℕ) (k : ℕ) (out list lent : List ℕ) (a : Result ℕ Unchecked) (new : List ℕ) (w : WritePromise c old (Ok k) out)
    (x : CheckPromise plain list (take k out) lent a new) (f : Gathered) (e : read_of plain list most_entries ≡ Ok f) (size : f.n ≡ length c) (room : length c ≤ length lent) where
  wrote : Wrote most_entries c k out
  wrote = wrote_is most_entries c old k out w

  sevens : length c < 10000000
  sevens = let f = wrote.few in omega arith

  short : length (sheet_text c) ≤ longest_text
  short = sheet_fits c wrote.canon wrote.few

  pub calls_free : T (clash_free (length c) (matrix f.rows) c) → (a ≡ Ok (groups 0 c)) × (new ≡ c ++ drop (length c) lent)
  calls_free = calls_up_to_free plain most_entries longest_text c old sevens short k out list lent a new w x f e size room

  pub calls_clash : ¬ T (clash_free (length c) (matrix f.rows) c) → (l : ℕ) × (clash_line (matrix f.rows) c ≡ some l) × (a ≡ Err (OfSheet (on_line Clash l))) × (new ≡ lent)
  calls_clash = calls_up_to_clash plain most_entries longest_text c old sevens short k out list lent a new w x f e size room
