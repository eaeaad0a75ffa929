-- Laws of `over`: what each step keeps. Assumes nothing.
use mathlib.Core.Path.{refl}
use mathlib.Core.Logic.{inl, inr}
use mathlib.Core.List.{List, [], ◌∷◌}
use Rattle.sets.specs.Lists.{In, over}

module _ {S A : Type 0} (f : S → A → S) where
  -- what each step keeps, all keep
  pub over_keeps : (P : S → Type 0) (l : List A) (s : S) → ((t : S) (x : A) → In x l → P t → P (f t x)) → P s → P (over f s l)
  over_keeps P [] s h p = p
  over_keeps P (x ∷ l) s h p = over_keeps P l (f s x) (λ t y i. h t y (inr i)) (h s x (inl refl) p)

  -- what one step reaches and all keep is reached
  pub over_reaches : (P : S → Type 0) (l : List A) (s : S) (x : A) → In x l → ((t : S) → P (f t x)) → ((t : S) (y : A) → P t → P (f t y)) → P (over f s l)
  over_reaches P [] s x i hit keep = absurd i
  over_reaches P (y ∷ l) s x (inl e) hit keep = over_keeps P l (f s y) (λ t z j. keep t z) (rw (← e) (hit s))
  over_reaches P (y ∷ l) s x (inr i) hit keep = over_reaches P l (f s y) x i hit keep
