-- Laws of the answers on a lent matrix: that no other answer meets the promise, and what the clique bound's means. Assumes nothing.
use mathlib.Core.Path.{◌≡◌, refl, sym, ap, ap₂, ◌∙◌, subst}
use mathlib.Core.List.{List}
use Prim.Native.Nat.{ℕ, ◌≤◌}
use lib.ListN.{length}
use Rattle.std.specs.Prelude.{Result, Ok, Err}
use Rattle.refusals.specs.declared.Invalid.{Invalid}
use Rattle.sets.specs.Set.{size}
use Rattle.clashes.specs.Matrix.{matrix}
use Rattle.clashes.specs.Colouring.{Chromatic}
use Rattle.clashes.proofs.MatrixLaws.{judged_up_to_unique, sound_valid}
use Rattle.graphs.specs.Graph.{Graph}
use Rattle.graphs.specs.Held.{view}
use Rattle.graphs.specs.Acts.{IsRoot}
use Rattle.graphs.specs.declared.Node.{Node}
use Rattle.bounds.specs.Lent.{of_list, verdict_of, value_of, members_of, answer_of, AnswersUpTo, AllClash}
use Rattle.bounds.specs.Names.{clique_set, clique_bound_lem}
use Rattle.bounds.specs.declared.Bound.{Bound}
use Rattle.bounds.proofs.BoundLaws.{clique_clash, clique_many, clique_chromatic}

-- an answer is its verdict, its value and its members
answer_is : (a : Result Bound Invalid) → answer_of (verdict_of a) (value_of a) (members_of a) ≡ a
answer_is (Ok b) = refl
answer_is (Err w) = refl

-- these count only where the verdict is valid
answer_same : (v : Result Unit Invalid) (b b' c c' : ℕ) → (v ≡ Ok tt → b ≡ b') → (v ≡ Ok tt → c ≡ c') → answer_of v b c ≡ answer_of v b' c'
answer_same (Ok tt) b b' c c' h k = ap₂ (λ x y. Ok (record { size = x; members = y })) (h refl) (k refl)
answer_same (Err w) b b' c c' h k = refl

-- what is so of the root is so of the list
pub root_list : (f : ℕ → Graph → ℕ) (rows : List ℕ) (h : Node) → IsRoot rows h → f h.n (view h) ≡ of_list f rows
root_list f rows h r = ap₂ f r.same r.is

module _ (most : ℕ) (f s : ℕ → Graph → ℕ) (rows : List ℕ) where
  pub answers_unique : (a b : Result Bound Invalid) → AnswersUpTo most f s rows a → AnswersUpTo most f s rows b → a ≡ b
  answers_unique a b p q =
      sym (answer_is a) ∙ ap (λ (v : Result Unit Invalid). answer_of v (value_of a) (members_of a)) same
      ∙ answer_same (verdict_of b) (value_of a) (value_of b) (members_of a) (members_of b) (λ e. p.value (same ∙ e) ∙ sym (q.value e))
      (λ e. p.members (same ∙ e) ∙ sym (q.members e))
      ∙ answer_is b
    where
      same : verdict_of a ≡ verdict_of b
      same = judged_up_to_unique most rows (verdict_of a) (verdict_of b) p.verdict q.verdict

-- what the clique bound answers: entries that all clash with one another, as many as it says, and so no more than the fewest sittings
module _ (most : ℕ) (rows : List ℕ) (b c : ℕ) (p : AnswersUpTo most clique_bound_lem clique_set rows (Ok (record { size = b; members = c }))) where
  pub bound_clash : AllClash (length rows) (matrix rows) c
  bound_clash =
      subst (AllClash (length rows) (matrix rows)) (sym (p.members refl)) (clique_clash (length rows) (matrix rows) (sound_valid rows p.verdict))

  pub bound_many : size (length rows) c ≡ b
  bound_many = ap (size (length rows)) (p.members refl) ∙ clique_many (length rows) (matrix rows) (sound_valid rows p.verdict) ∙ sym (p.value refl)

  pub bound_least : (k : ℕ) → Chromatic (length rows) (matrix rows) k → b ≤ k
  bound_least k x = subst (λ m. m ≤ k) (sym (p.value refl)) (clique_chromatic (length rows) (matrix rows) (sound_valid rows p.verdict) k x)
