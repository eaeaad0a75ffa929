-- One round of a walk's loop, over any rule: the pair of a node is merged, the walk below the merged graph comes back, the pair is merged back and, where
-- the walk is not out, separated. Each step with what the code asks for it. Assumes nothing.
use mathlib.Core.Path.{◌≡◌, ap, ◌∙◌, subst}
use mathlib.Core.List.{List}
use mathlib.Core.Option.{some}
use Prim.Native.Nat.{ℕ, suc, ◌+◌, ◌*◌, ◌<◌}
use Rattle.std.specs.Prelude.{Result, Ok, Err}
use lib.ListN.{length}
use Rattle.sets.specs.Set.{IsWithout}
use Rattle.wide.specs.Words.{num}
use Rattle.wide.specs.Form.{Fits}
use Rattle.wide.specs.declared.Set.{Set}
use Rattle.graphs.specs.Graph.{pair, merge, separate}
use Rattle.graphs.specs.Held.{view}
use Rattle.graphs.specs.Acts.{PairAt, BecomesAt}
use Rattle.graphs.specs.declared.Node.{Node}
use Rattle.undo.specs.declared.Undo.{Undo}
use Rattle.zykov.specs.Tree.{below}
use Rattle.zykov.specs.Walk.{Rule}
use Rattle.zykov.specs.Budget.{within, onward}
use Rattle.steps.specs.Going.{Lent, lending, node_in, state_of, ComesTelling, Merging, Unmerging, Parting, Kept, Left, Enters, EnteredTelling}
use Rattle.steps.specs.declared.State.{State}
use Rattle.steps.proofs.Splits.{living, open_pairs, at_pair, pair_bounds, merged_ready, merged_falls, onward_out, separated_ready, onward_on, separated_falls, separated_lives}
use Rattle.steps.proofs.Undoing.{merged_becomes, merged_laid, kept_again, trail_room, parted_becomes, parted_laid, left_parted}

-- the pair a, b of the node in l is separated, in z: what is walked from there, and what falls
pub record Apart (R : ℕ → Rule) (words n : ℕ) (live : Set) (l : Lent) (top a b : ℕ) (t : State) (z : Lent) (t' : State) : Type 0 where
  pub enters : (i : ℕ) → i ≡ suc top → Enters words n live z i t'
  pub left : (l₀ : Lent) (at more : ℕ) → top ≡ at + more → Left words l₀ at more l → Left words l₀ at (more + 1) z
  pub fewer : open_pairs (node_in words n live z) < open_pairs (node_in words n live l)
  pub lives : living (node_in words n live z) ≡ living (node_in words n live l)
  pub rest : (best : List ℕ) (r : Result State State) → ComesTelling n t' best r (within (R n) t'.budget (below n (view (node_in words n live z))) (state_of n z.best t'))
      → ComesTelling n t best r (onward (R n) t.budget n (view (node_in words n live l)) a b (state_of n l.best t))

-- the walk below the merged graph came back to t', and the pair is merged back, in y
pub record Back (R : ℕ → Rule) (words n : ℕ) (live : Set) (l : Lent) (top a b : ℕ) (t : State) (y : Lent) (r : Result State State) : Type 0 where
  pub kept : Kept words l top y
  pub out : (t' : State) → r ≡ Err t' → ComesTelling n t y.best (Err t') (onward (R n) t.budget n (view (node_in words n live l)) a b (state_of n l.best t))
  pub room : (a < 64 * words) × (b < 64 * words) × (top < length y.trail)
  pub apart : (t' : State) → r ≡ Ok t' → (rows trail : List ℕ) → Parting words y.rows y.trail top a b rows trail
      → Apart R words n live l top a b t (lending rows y.names y.best trail) t'

module _ {words n : ℕ} {live : Set} {l : Lent} {top a b : ℕ} {t : State} (e : Enters words n live l top t)
    (c : pair n (view (node_in words n live l)) ≡ some (a, b)) where
  abbrev g : Node
  g = node_in words n live l

  at_g : PairAt (64 * words) g a b
  at_g = at_pair (64 * words) g a b e.ready.held c

  pub round_pair : (a < 64 * words) × (b < 64 * words)
  round_pair = pair_bounds (64 * words) g a b e.ready.held c

  -- to merge
  pub round_merges : (length l.names ≡ 64 * words) × (a < 64 * words) × (b < 64 * words)
  round_merges = (e.laid.named, round_pair.0, round_pair.1)

  module _ {rows' names' : List ℕ} {d : Undo} (m : Merging words live l.rows l.names a b rows' names' d) (fewer : Set)
      (w : IsWithout (num live) b (num fewer)) where
    abbrev mixed : Lent
    mixed = lending rows' names' l.best l.trail

    becomes : BecomesAt (64 * words) g (node_in words n fewer mixed) (merge a b (view g))
    becomes = merged_becomes words n live l top a b at_g e.laid rows' names' d m fewer w

    -- to enter the merged graph
    pub round_enters : Enters words n fewer mixed top t
    round_enters = record {
      ready = merged_ready (64 * words) g a b e.ready.held c l.best t e.ready.fair (node_in words n fewer mixed) becomes;
      laid = merged_laid words n live l top a b at_g e.laid rows' names' d m fewer w;
    }

    pub round_falls : suc (living (node_in words n fewer mixed)) ≡ living g
    round_falls = merged_falls (64 * words) g a b e.ready.held c (node_in words n fewer mixed) becomes

    module _ (R : ℕ → Rule) {x : Lent} {r : Result State State} (en : EnteredTelling words (R n) n fewer mixed top t x r) where
      -- to merge back
      pub round_unmerges : (length x.names ≡ 64 * words) × (a < 64 * words) × (b < 64 * words)
      round_unmerges = (ap length en.kept.stays.names ∙ round_enters.laid.named, round_pair.0, round_pair.1)

      pub round_fits : Fits (64 * words) (num d.old) × Fits (64 * words) (num d.near)
      round_fits = (m.rows_are.old_fits, m.rows_are.near_fits)

      module _ {rows'' names'' : List ℕ} (un : Unmerging words x.rows x.names a b d rows'' names'') where
        abbrev y : Lent
        y = lending rows'' names'' x.best x.trail

        again : Kept words l top y
        again = kept_again words n live l top a b at_g e.laid rows' names' d m fewer w x en.kept rows'' names'' un

        abbrev z : List ℕ → List ℕ → Lent
        z rows trail = lending rows names'' x.best trail

        came : (t' : Result State State) → r ≡ t' → ComesTelling n t x.best t' (within (R n) t.budget (below n (view (node_in words n fewer mixed))) (state_of n l.best t))
        came t' o = subst (λ (s : Result State State). ComesTelling n t x.best s (within (R n) t.budget (below n (view (node_in words n fewer mixed))) (state_of n l.best t))) o en.comes

        apart : (t' : State) → r ≡ Ok t' → (rows trail : List ℕ) → Parting words rows'' x.trail top a b rows trail
            → Apart R words n live l top a b t (lending rows names'' x.best trail) t'
        apart t' o rows trail part = record {
          enters = λ i f. record {
            ready = separated_ready (64 * words) g a b e.ready.held c R l.best t (node_in words n fewer mixed) becomes x.best t' (came (Ok t') o)
                (node_in words n live (z rows trail)) parted;
            laid = parted_laid words n live l top a b at_g e.laid y again rows trail part i f;
          };
          left = left_parted words n live l top a b at_g e.laid y again rows trail part;
          fewer = separated_falls (64 * words) g a b e.ready.held c (node_in words n live (z rows trail)) parted;
          lives = separated_lives (64 * words) g a b e.ready.held c (node_in words n live (z rows trail)) parted;
          rest = onward_on (64 * words) g a b e.ready.held c R l.best t (node_in words n fewer mixed) becomes x.best t' (came (Ok t') o)
              (node_in words n live (z rows trail)) parted;
        }
          where
            parted : BecomesAt (64 * words) g (node_in words n live (lending rows names'' x.best trail)) (separate a b (view g))
            parted = parted_becomes words n live l top a b at_g e.laid y again rows trail part

        pub round_back : Back R words n live l top a b t y r
        round_back = record {
          kept = again;
          out = λ t' o. onward_out (64 * words) g a b e.ready.held c R l.best t (node_in words n fewer mixed) becomes x.best t' (came (Err t') o);
          room = (round_pair.0, round_pair.1, trail_room words n live l top a b at_g e.laid y again);
          apart = apart;
        }
