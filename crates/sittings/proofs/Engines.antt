-- TWO ENGINES, ONE k. The bounded walk and the search by placing owe nothing to one another; that they agree follows from what each promises, over
-- divisions. Further theorems of the engine: crates/placing/proofs/Demands.antt. Assumes nothing.
use mathlib.Core.Path.{◌≡◌, refl, sym, ap, ◌∙◌, subst}
use mathlib.Core.Logic.{◌≢◌}
use mathlib.Core.Bool.{Bool}
use mathlib.Core.List.{List}
use Prim.Native.Nat.{ℕ, ◌≤◌}
use native.Mathlib.Omega.{arith}
use lib.ListN.{length}
use Rattle.std.specs.Prelude.{Result, Ok, Err}
use Rattle.refusals.specs.Table.{accepted}
use Rattle.refusals.specs.declared.Invalid.TheVariants.{Many, Stray, Itself, OneSided}
use Rattle.refusals.specs.declared.Unsolved.{Unsolved}
use Rattle.refusals.specs.declared.Unsolved.TheVariants.{OfRows, Short, Budget}
use Rattle.sets.specs.Set.{size}
use Rattle.clashes.specs.Matrix.{matrix, SoundUpTo}
use Rattle.clashes.proofs.Meaning.{chromatic_unique}
use Rattle.clashes.proofs.MatrixLaws.{sound_valid}
use Rattle.bounds.specs.Names.{clique_set}
use Rattle.bounds.specs.Lent.{of_list, AllClash}
use Rattle.bounds.proofs.BoundLaws.{clique_shows, no_entries}
use Rattle.zykov.specs.Walk.{State as Described}
use Rattle.walk.specs.Promise.{numbers, PromisedUpTo}
use Rattle.walk.specs.declared.found.Fewest.{Fewest}
use Rattle.placing.specs.declared.Placing.{Placing}
use Rattle.placing.specs.Promise as promise
use Rattle.placing.proofs.PromiseLaws as placing
use Rattle.sittings.specs.Placing.{shown, PlacingPromiseUpTo}

-- ---- one answer, and one state of the lent bytes

pub placing_unique : (most : ℕ) (rows before : List ℕ) (budget : ℕ) (a b : Result Fewest Unsolved) (after other : List ℕ) → PlacingPromiseUpTo most rows before budget a after
    → PlacingPromiseUpTo most rows before budget b other → (a ≡ b) × (after ≡ other)
placing_unique most rows before budget a b after other p q =
    let u = placing.promised_unique most rows before budget p.engine q.engine after other p.promised q.promised in
    (p.is ∙ ap (shown rows) u.0 ∙ sym q.is, u.1)

-- ---- refused

-- a refusal has the engine's own number
number_shown : (rows : List ℕ) (e : Result Placing Unsolved) → (numbers (shown rows e)).number ≡ (promise.numbers e).number
number_shown rows (Ok p) = refl
number_shown rows (Err (OfRows Many)) = refl
number_shown rows (Err (OfRows (Stray i))) = refl
number_shown rows (Err (OfRows (Itself i))) = refl
number_shown rows (Err (OfRows (OneSided i))) = refl
number_shown rows (Err Short) = refl
number_shown rows (Err (Budget m)) = refl

-- A refused call writes nothing.
pub refused_kept : (most : ℕ) (rows before : List ℕ) (budget : ℕ) (a : Result Fewest Unsolved) (after : List ℕ) → PlacingPromiseUpTo most rows before budget a after
    → (numbers a).number ≢ accepted → after ≡ before
refused_kept most rows before budget a after p h =
    placing.refused_kept most rows before budget p.engine after p.promised
    (λ e. h (ap (λ (x : Result Fewest Unsolved). (numbers x).number) p.is ∙ number_shown rows p.engine ∙ e))

-- ---- accepted

-- what was found, as the engine told it
abbrev pub told_of : Fewest → Placing
told_of f = record { k = f.k; nodes = f.nodes }

-- what is shown as accepted is what the engine found
accepted_shown : (rows : List ℕ) (e : Result Placing Unsolved) (f : Fewest) → Ok f ≡ shown rows e
    → (e ≡ Ok (told_of f)) × (f.leaves ≡ 0) × (f.clique ≡ of_list clique_set rows)
accepted_shown rows (Ok p) f h =
    let z : ◌≡◌ {A = Fewest} f (record { k = p.k; nodes = p.nodes; leaves = 0; clique = of_list clique_set rows }) = cc in
    (sym (ap (λ (x : Fewest). Ok (told_of x)) z), ap (λ (x : Fewest). x.leaves) z, ap (λ (x : Fewest). x.clique) z)
accepted_shown rows (Err w) f h = let z : ◌≡◌ {A = ℕ} 0 1 = cc in absurd (omega arith)

-- what the engine accepted is a list
pub found_sound : (most : ℕ) (rows before : List ℕ) (budget : ℕ) (e : Result Placing Unsolved) (after : List ℕ) (p : Placing)
    → promise.PromisedUpTo most rows before budget e after → e ≡ Ok p → SoundUpTo most rows
found_sound most rows before budget e after p q h =
    (subst (λ (x : Result Placing Unsolved). promise.PromisedUpTo most rows before budget x after) h q).opened.sound

module _ (most : ℕ) (rows before : List ℕ) (budget : ℕ) (f : Fewest) (after : List ℕ) (p : PlacingPromiseUpTo most rows before budget (Ok f) after) where
  is_found : (p.engine ≡ Ok (told_of f)) × (f.leaves ≡ 0) × (f.clique ≡ of_list clique_set rows)
  is_found = accepted_shown rows p.engine f p.is

  -- All that the engine promises of what it found is so of k, nodes and bytes.
  pub found_so : promise.PromisedUpTo most rows before budget (Ok (told_of f)) after
  found_so = subst (λ (e : Result Placing Unsolved). promise.PromisedUpTo most rows before budget e after) is_found.0 p.promised

  -- "every number not named is 0"
  pub no_leaves : f.leaves ≡ 0
  no_leaves = is_found.1

  -- The clique is the one that document 01's rule picks in the list's graph: entries that all clash with one another, no more of them than k.
  pub clique_shown : (f.clique ≡ of_list clique_set rows) × AllClash (length rows) (matrix rows) f.clique × (size (length rows) f.clique ≤ f.k)
  clique_shown =
      let s = clique_shows (length rows) (matrix rows) (sound_valid rows found_so.opened.sound) f.k found_so.fewest f.clique is_found.2 in
      (is_found.2, s.0, s.1)

  -- None is shown where there are no entries.
  pub clique_none : length rows ≡ 0 → f.clique ≡ 0
  clique_none e = no_entries (matrix rows) f.clique (subst (λ n. AllClash n (matrix rows) f.clique) e clique_shown.1)

  -- "It is proved to answer the same k as the bounded walk on every valid list whenever neither is refused", whatever buffer and budget each has. The
  -- clique is the same too. `walk` is either described walk.
  pub engines_agree : (walk : ℕ → (ℕ → ℕ → Bool) → Described) (before' : List ℕ) (budget' : ℕ) (g : Fewest) (after' : List ℕ)
      → PromisedUpTo most walk rows before' budget' (Ok g) after' → (f.k ≡ g.k) × (f.clique ≡ g.clique)
  engines_agree walk before' budget' g after' q =
      (chromatic_unique (length rows) (matrix rows) f.k g.k found_so.fewest q.fewest, is_found.2 ∙ sym q.shown)
