-- The calls, one after the other: what `write_list` wrote, both readings read back as the same n and rows; how much `write_list` writes; and what
-- the plain reading accepts, or refuses for anything but a repeat, the other one answers alike.
use Prim.Native.Nat.{ℕ, ◌+◌, ◌≤◌}
use native.Mathlib.Omega.{arith}
use mathlib.Core.Path.{◌≡◌, refl, sym, ap, subst, ◌∙◌}
use mathlib.Core.List.{List, ◌++◌}
use mathlib.Core.Logic.{⊎_elim}
use mathlib.Core.Bool.{Bool, true, false, cond}
use borrow.Author.Tests.{leb-true}
use lib.Dec.{leb}
use lib.ListN.{length, take, drop}
use lib.Seq.{take_at}
use Rattle.clashes.specs.Matrix.{JudgedUpTo, SoundUpTo}
use Rattle.std.specs.Prelude.{Result, Ok, Err}
use Rattle.refusals.specs.declared.Invalid.{Invalid}
use Rattle.lines.specs.Numeral.{over}
use Rattle.lists.specs.Read.{most_entries, longest_text, read_of, answer_in, written_of}
use Rattle.lists.specs.Write.{text_of, answer_of, left_of}
use Rattle.lists.specs.Promise.{ReadPromiseUpTo, WritePromiseUpTo, ReadPromise, WritePromise}
use Rattle.lists.specs.declared.Unread.{Unread}
use Rattle.lists.specs.declared.Gathered.{Gathered}
use Rattle.lists.specs.declared.Unwritten.TheVariants.{Full}
use Rattle.lists.specs.declared.Fault.TheVariants.{Repeat}
use Rattle.lists.proofs.ReadBack.{Sevens, sevens, text_up_to_alike, read_up_to_back}
use Rattle.lists.proofs.Alike.{read_up_to_alike}
use Rattle.lists.proofs.Lengths.{list_most}

-- a text of length k was written: the rows are sound, and the first k bytes are their text
record Wrote (most : ℕ) (rows : List ℕ) (k : ℕ) (out : List ℕ) : Type 0 where
  sound : SoundUpTo most rows
  long : k ≡ length (text_of rows)
  text : take k out ≡ text_of rows

module _ (most : ℕ) (rows old : List ℕ) (k : ℕ) (out : List ℕ) where
  wrote : (v : Result Unit Invalid) → JudgedUpTo most rows v → Ok k ≡ answer_of v (text_of rows) (length old) → out ≡ left_of v (text_of rows) old → Wrote most rows k out
  wrote (Ok u) j a l = go (leb (length (text_of rows)) (length old)) a l
    where
      go : (b : Bool) → Ok k ≡ cond b (Ok (length (text_of rows))) (Err Full) → out ≡ cond b (over old 0 (text_of rows)) old → Wrote most rows k out
      go true a l =
          let e : k ≡ length (text_of rows) = cc in
          record { sound = j; long = e; text = ap (take k) l ∙ take_at (text_of rows) (drop (0 + length (text_of rows)) old) k (sym e) }
      go false a l = let z : ◌≡◌ {A = ℕ} 0 1 = cc in absurd (omega arith)
  wrote (Err i) j a l = let z : ◌≡◌ {A = ℕ} 0 1 = cc in absurd (omega arith)

  wrote_is : WritePromiseUpTo most rows old (Ok k) out → Wrote most rows k out
  wrote_is w = wrote w.verdict w.judged w.answer w.lent

  pub calls_up_to_back : (plain : Bool) (longest : ℕ) (lent : List ℕ) (a : Result ℕ Unread) (new : List ℕ) → WritePromiseUpTo most rows old (Ok k) out
      → ReadPromiseUpTo plain most longest (take k out) lent a new → length rows ≤ length lent → Sevens rows → k ≤ longest
      → (a ≡ Ok (length rows)) × (new ≡ rows ++ drop (length rows) lent)
  calls_up_to_back plain longest lent a new w r h s z =
      let x = wrote_is w in
      let b = read_up_to_back most rows x.sound plain longest lent h s (omega (arith, x.long)) in
      let q = subst (λ (s : List ℕ). ReadPromiseUpTo plain most longest s lent a new) x.text r in
      (q.answer ∙ b.0, q.lent ∙ b.1)

-- ---- with today's limits

-- the C header's figure
pub write_most : (rows old : List ℕ) (k : ℕ) (out : List ℕ) → WritePromise rows old (Ok k) out → k ≤ 15576
write_most rows old k out w =
    let x = wrote_is most_entries rows old k out w in
    omega (arith, x.long, list_most rows x.sound.apart.inside.few)

pub calls_back : (plain : Bool) (rows old out lent : List ℕ) (k : ℕ) (a : Result ℕ Unread) (new : List ℕ) → WritePromise rows old (Ok k) out
    → ReadPromise plain (take k out) lent a new → length rows ≤ length lent
    → (a ≡ Ok (length rows)) × (new ≡ rows ++ drop (length rows) lent)
calls_back plain rows old out lent k a new w r h =
    let few = (wrote_is most_entries rows old k out w).sound.apart.inside.few in
    calls_up_to_back most_entries rows old k out plain longest_text lent a new w r h (sevens rows few) (omega (arith, write_most rows old k out w))

-- ---- the two readings

module _ (lent : List ℕ) (a b : Result ℕ Unread) (new other : List ℕ) where
  -- what is written is read alike by both, whatever rows are lent
  pub calls_alike : (plain repeats : Bool) (rows old out : List ℕ) (k : ℕ) → WritePromise rows old (Ok k) out
      → ReadPromise plain (take k out) lent a new → ReadPromise repeats (take k out) lent b other → (a ≡ b) × (new ≡ other)
  calls_alike plain repeats rows old out k w x y =
      let z = wrote_is most_entries rows old k out w in
      let few = z.sound.apart.inside.few in
      let e : read_of plain (take k out) (length lent) ≡ read_of repeats (take k out) (length lent) =
      rw z.text (text_up_to_alike plain repeats most_entries longest_text rows (length lent) few (sevens rows few)) in (
        x.answer ∙ ap answer_in e ∙ sym y.answer,
        x.lent ∙ ap (λ (f : Result Gathered Unread). written_of f lent) e ∙ sym y.lent,
      )

  -- a text is read alike by both, unless the plain reading refuses a repeat
  pub reads_alike : (s : List ℕ) → ReadPromise true s lent a new → ReadPromise false s lent b other → ((k : ℕ) → ¬ (a ≡ Err (record { why = Repeat; line = k; column = 0 })))
      → (a ≡ b) × (new ≡ other)
  reads_alike s x y h =
      ⊎_elim (λ e. (x.answer ∙ ap answer_in e ∙ sym y.answer, x.lent ∙ ap (λ (f : Result Gathered Unread). written_of f lent) e ∙ sym y.lent))
      (λ e. absurd (h e.0 (x.answer ∙ ap answer_in e.1))) (read_up_to_alike most_entries longest_text s (length lent))

-- and so a text that the plain reading accepts
pub accepted_alike : (s lent : List ℕ) (n : ℕ) (b : Result ℕ Unread) (new other : List ℕ) → ReadPromise true s lent (Ok n) new → ReadPromise false s lent b other
    → (b ≡ Ok n) × (other ≡ new)
accepted_alike s lent n b new other x y =
    let r = reads_alike lent (Ok n) b new other s x y (λ k e. let z : ◌≡◌ {A = ℕ} 0 1 = cc in omega arith) in
    (sym r.0, sym r.1)

-- ---- a text that was written fits the lent bytes

pub write_fits : (rows old : List ℕ) (k : ℕ) (out : List ℕ) → WritePromise rows old (Ok k) out → k ≤ length old
write_fits rows old k out w = go w.verdict w.answer
  where
    fits : (b : Bool) → leb (length (text_of rows)) (length old) ≡ b → Ok k ≡ cond b (Ok (length (text_of rows))) (Err Full) → k ≤ length old
    fits true e a =
        let z : k ≡ length (text_of rows) = cc in
        let l = leb-true (length (text_of rows)) (length old) e in
        omega arith
    fits false e a = let z : ◌≡◌ {A = ℕ} 0 1 = cc in absurd (omega arith)

    go : (v : Result Unit Invalid) → Ok k ≡ answer_of v (text_of rows) (length old) → k ≤ length old
    go (Ok u) a = fits (leb (length (text_of rows)) (length old)) refl a
    go (Err i) a = let z : ◌≡◌ {A = ℕ} 0 1 = cc in absurd (omega arith)
