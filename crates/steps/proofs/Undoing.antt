-- A node's rows and names are merged in place and merged back; its separated pairs stand on the trail. What the walk below a pair leaves is what it
-- found. Assumes nothing.
use mathlib.Core.Path.{◌≡◌, refl, sym, ap, ◌∙◌, subst}
use mathlib.Core.Logic.{inl, inr}
use mathlib.Core.Bool.{Bool, not, ◌&&◌}
use mathlib.Core.List.{List}
use Prim.Native.Nat.{ℕ, zero, suc, ◌+◌, ◌*◌, ◌<◌, ◌≤◌}
use native.Mathlib.Numerals.{add-one}
use native.Mathlib.Omega.{arith}
use lib.ListN.{length, get_or, set, length-set}
use lib.Seq.{get_or-set_same, get_or-set_other}
use Rattle.sets.specs.Set.{has, IsWithout}
use Rattle.wide.specs.Words.{num}
use Rattle.wide.specs.Form.{Form, held}
use Rattle.wide.specs.declared.Set.{Set}
use Rattle.wide.proofs.FormLaws.{form_long}
use Rattle.graphs.specs.Graph.{merge, separate}
use Rattle.graphs.specs.Held.{HeldAt, view}
use Rattle.graphs.specs.Acts.{PairAt, BecomesAt, Renamed}
use Rattle.graphs.specs.declared.Node.{Node}
use Rattle.graphs.proofs.SplitLaws.{separate_is}
use Rattle.graphs.proofs.MeasureLaws.{parted_fewer}
use Rattle.graphs.proofs.HeldLaws.{merged_missing, separated_missing}
use Rattle.undo.specs.Back.{Undone, Separates, is_met, Restored}
use Rattle.undo.specs.Forest.{Forest, called}
use Rattle.undo.specs.declared.Undo.{Undo}
use Rattle.undo.proofs.BackLaws.{undone_same}
use Rattle.undo.proofs.TrailLaws.{restored_same, restored_none, restored_next, met_same}
use Rattle.undo.proofs.ForestLaws.{called_root, forest_merged, renamed_is, names_back}
use Rattle.steps.specs.Going.{Lent, lending, node_in, Merging, Unmerging, Parting, Laid, Stays, Kept, Left}

-- ---- forms

pub form_few : {words : ℕ} {rows : List ℕ} → Form words rows → 64 * words ≤ 256
form_few (inl o) = omega (arith, o.words_one)
form_few (inr f) = omega (arith, f.words_four)

pub form_same_long : {words : ℕ} {a b : List ℕ} → Form words a → Form words b → length b ≡ length a
form_same_long f g = sym (form_long g).0 ∙ (form_long f).0

-- names and best have a place for each entry
pub laid_finds : (words n : ℕ) (live : Set) (l : Lent) (at : ℕ) → Laid words n live l at → HeldAt (64 * words) (node_in words n live l)
    → (n ≤ length l.names) × (n ≤ length l.best) × (n ≤ 256)
laid_finds words n live l at laid held = (omega (arith, held.few, laid.named), laid.bytes, omega (arith, held.few, form_few laid.form))

-- all that is lent is as long as it was
pub stays_long : {words : ℕ} {l : Lent} {at : ℕ} {x : Lent} → Form words l.rows → Stays words l at x
    → (length x.rows ≡ length l.rows) × (length x.names ≡ length l.names) × (length x.best ≡ length l.best) ×
    (length x.trail ≡ length l.trail)
stays_long f s = (form_same_long f s.form, ap length s.names, s.best_long, s.trail_long)

-- what is laid is so at another place of the trail that is as far
pub laid_at : {words n : ℕ} {live : Set} {l : Lent} {at : ℕ} (i : ℕ) → i ≡ at → Laid words n live l at → Laid words n live l i
laid_at {words = words} {n = n} {live = live} {l = l} i e laid = subst (Laid words n live l) (sym e) laid

-- ---- nothing is changed but the best; nothing is on the trail yet

module _ (words : ℕ) (l : Lent) (at : ℕ) where
  stays_best : (best : List ℕ) → Form words l.rows → length best ≡ length l.best → Stays words l at (lending l.rows l.names best l.trail)
  stays_best best f e = record { form = f; names = refl; best_long = e; trail_long = refl; trail = λ j h. refl }

  pub kept_best : (best : List ℕ) → Form words l.rows → length best ≡ length l.best → Kept words l at (lending l.rows l.names best l.trail)
  kept_best best f e = record { stays = stays_best best f e; rows = refl }

  pub kept_all : Form words l.rows → Kept words l at l
  kept_all f = kept_best l.best f refl

  pub left_none : Form words l.rows → at ≤ length l.trail → Left words l at 0 l
  left_none f h = record { stays = stays_best l.best f refl; rows = restored_none (64 * words) l.trail at (held words l.rows); few = omega arith }

  module _ (more : ℕ) (x : Lent) (left : Left words l at more x) where
    pub left_best : (best : List ℕ) → length best ≡ length x.best → Left words l at more (lending x.rows x.names best x.trail)
    left_best best e = record {
      stays = record {
        form = left.stays.form;
        names = left.stays.names;
        best_long = e ∙ left.stays.best_long;
        trail_long = left.stays.trail_long;
        trail = left.stays.trail;
      };
      rows = left.rows;
      few = left.few;
    }

    -- what is left on the trail is restored
    pub kept_restored : (rows : List ℕ) → Form words rows → Restored (64 * words) x.trail at more (held words x.rows) (held words rows)
        → Kept words l at (lending rows x.names x.best x.trail)
    kept_restored rows f r = record {
      stays = record {
        form = f;
        names = left.stays.names;
        best_long = left.stays.best_long;
        trail_long = left.stays.trail_long;
        trail = left.stays.trail;
      };
      rows = restored_same (64 * words) x.trail at more (held words x.rows) (held words rows) (held words l.rows) r left.rows;
    }

    -- what a walk below leaves
    pub left_kept : (y : Lent) → Kept words x (at + more) y → Left words l at more y
    left_kept y k = record {
      stays = record {
        form = k.stays.form;
        names = k.stays.names ∙ left.stays.names;
        best_long = k.stays.best_long ∙ left.stays.best_long;
        trail_long = k.stays.trail_long ∙ left.stays.trail_long;
        trail = λ j h. k.stays.trail j (omega arith) ∙ left.stays.trail j h;
      };
      rows = record {
        long = left.rows.long ∙ ap length (sym k.rows);
        is = λ i j.
            left.rows.is i j ∙ ap (λ (m : List ℕ). has (get_or m i zero) j && not (is_met (64 * words) x.trail at more i j)) (sym k.rows)
            ∙ ap (λ (t : Bool). has (get_or (held words y.rows) i zero) j && not t)
            (sym (met_same (64 * words) y.trail x.trail at more i j k.stays.trail));
      };
      few = omega (arith, left.few, k.stays.trail_long);
    }

-- ---- a pair is merged, and merged back; a pair is separated

module _ (words n : ℕ) (live : Set) (l : Lent) (top a b : ℕ) (p : PairAt (64 * words) (node_in words n live l) a b) (laid : Laid words n live l top) where
  abbrev g : Node
  g = node_in words n live l

  abbrev names : List ℕ
  names = l.names

  few_a : a < 64 * words
  few_a = omega (arith, p.chosen.live_u.below, p.held.few)

  few_b : b < 64 * words
  few_b = omega (arith, p.chosen.live_v.below, p.held.few)

  in_a : a < length names
  in_a = omega (arith, few_a, laid.named)

  in_b : b < length names
  in_b = omega (arith, few_b, laid.named)

  root_a : get_or names a zero ≡ a
  root_a = called_root names laid.forest a in_a p.chosen.live_u.self

  root_b : get_or names b zero ≡ b
  root_b = called_root names laid.forest b in_b p.chosen.live_v.self

  module _ (rows' names' : List ℕ) (d : Undo) (mer : Merging words live l.rows names a b rows' names' d) (fewer : Set)
      (w : IsWithout (num live) b (num fewer)) where
    abbrev mixed : Lent
    mixed = lending rows' names' l.best l.trail

    renaming : Renamed (called names) a b (called names')
    renaming =
        subst (λ (ns : List ℕ). Renamed (called names) a b (called ns)) (sym mer.names_are)
        (renamed_is names laid.forest a b p.chosen.less in_b root_a root_b)

    pub merged_becomes : BecomesAt (64 * words) g (node_in words n fewer mixed) (merge a b (view g))
    merged_becomes = mer.rows_are.is g (num fewer) (called names') p w renaming

    pub merged_laid : Laid words n fewer mixed top
    merged_laid = record {
      form = mer.form;
      forest = subst Forest (sym mer.names_are) (forest_merged names laid.forest a b p.chosen.less in_b root_a root_b);
      named = ap length mer.names_are ∙ length-set names b a ∙ laid.named;
      bytes = laid.bytes;
      room = omega (arith, laid.room, merged_missing g (node_in words n fewer mixed) a b p merged_becomes);
    }

    -- the walk below the merged graph has come back, and it is merged no more
    pub kept_again : (x : Lent) → Kept words mixed top x → (rows'' names'' : List ℕ) → Unmerging words x.rows x.names a b d rows'' names''
        → Kept words l top (lending rows'' names'' x.best x.trail)
    kept_again x k rows'' names'' un = record {
      stays = record {
        form = un.form;
        names = un.names_are ∙ ap (λ (ns : List ℕ). set ns b b) (k.stays.names ∙ mer.names_are) ∙ names_back names laid.forest a b
            p.chosen.less in_b root_a root_b;
        best_long = k.stays.best_long;
        trail_long = k.stays.trail_long;
        trail = k.stays.trail;
      };
      rows = undone_same (held words rows') a (num d.old) (num d.near) (held words rows'') (held words l.rows)
          (subst (λ (m : List ℕ). Undone m a (num d.old) (num d.near) (held words rows'')) k.rows un.rows_are) (mer.rows_are.back g p);
    }

  -- ---- back at the node, in y, as it was

  module _ (y : Lent) (k : Kept words l top y) where
    -- a pair is open, so the trail has room for it
    pub trail_room : top < length y.trail
    trail_room =
        let q = parted_fewer n (view g) (separate a b (view g)) a b p.held.good p.chosen (separate_is n (view g) a b p.held.good p.chosen) in
        omega (arith, laid.room, k.stays.trail_long, q)

    module _ (rows trail : List ℕ) (part : Parting words y.rows y.trail top a b rows trail) where
      abbrev apart : Lent
      apart = lending rows y.names y.best trail

      parts : Separates (64 * words) (held words l.rows) a b (held words rows)
      parts = subst (λ (m : List ℕ). Separates (64 * words) m a b (held words rows)) k.rows part.rows_are

      pub parted_becomes : BecomesAt (64 * words) g (node_in words n live apart) (separate a b (view g))
      parted_becomes =
          subst (λ (ns : List ℕ). BecomesAt (64 * words) g (node_in words n live (lending rows ns y.best trail)) (separate a b (view g)))
          (sym k.stays.names) (parts.is g p)

      long : length trail ≡ length l.trail
      long = ap length part.trail_is ∙ length-set y.trail top (a * 256 + b) ∙ k.stays.trail_long

      pub parted_laid : (i : ℕ) → i ≡ suc top → Laid words n live apart i
      parted_laid i e = record {
        form = part.form;
        forest = subst Forest (sym k.stays.names) laid.forest;
        named = ap length k.stays.names ∙ laid.named;
        bytes = omega (arith, laid.bytes, k.stays.best_long);
        room = omega (arith, laid.room, long, separated_missing g (node_in words n live apart) a b p parted_becomes);
      }

      below_top : (j : ℕ) → j < top → get_or trail j zero ≡ get_or l.trail j zero
      below_top j h =
          ap (λ (t : List ℕ). get_or t j zero) part.trail_is ∙ get_or-set_other y.trail top j (a * 256 + b) zero (λ e. absurd (let z : ⊥ = omega arith in z))
          ∙ k.stays.trail j h

      at_top : get_or trail top zero ≡ a * 256 + b
      at_top = ap (λ (t : List ℕ). get_or t top zero) part.trail_is ∙ get_or-set_same y.trail top (a * 256 + b) zero trail_room

      -- and the pair is on the trail
      pub left_parted : (l₀ : Lent) (at more : ℕ) → top ≡ at + more → Left words l₀ at more l → Left words l₀ at (more + 1) apart
      left_parted l₀ at more e left = record {
        stays = record {
          form = part.form;
          names = k.stays.names ∙ left.stays.names;
          best_long = k.stays.best_long ∙ left.stays.best_long;
          trail_long = long ∙ left.stays.trail_long;
          trail = λ j h. below_top j (omega arith) ∙ left.stays.trail j h;
        };
        rows = subst (λ (i : ℕ). Restored (64 * words) trail at i (held words rows) (held words l₀.rows)) (sym (add-one more))
            (restored_next (64 * words) l.trail trail at more a b (held words l.rows) (held words rows) (held words l₀.rows)
            (form_few laid.form) left.rows
            (parts.back g p) (λ j h. below_top j (omega arith)) (ap (λ (i : ℕ). get_or trail i zero) (sym e) ∙ at_top) few_a few_b);
        few = omega (arith, long, trail_room, k.stays.trail_long);
      }
