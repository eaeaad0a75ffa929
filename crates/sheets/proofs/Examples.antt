-- Document 01's five-cycle and its sheet, checked: accepted with k = 3 and its colours; one member off, refused.
use Prim.Native.Nat.{ℕ}
use mathlib.Core.Path.{◌≡◌, refl}
use mathlib.Core.List.{List, [], ◌∷◌, ◌++◌}
use mathlib.Core.Bool.{true}
use Rattle.sheets.specs.Check.{check_of}
use Rattle.sheets.specs.Promise.{answer_in, numbers_of_lem, written_of}
use Rattle.sheets.specs.declared.Text.{Text}
use Rattle.sheets.specs.declared.Text.TheVariants.{Neither, TheSheet}

-- the list of the paper
five : List ℕ
five =
    112 ∷ 32 ∷ 101 ∷ 100 ∷ 103 ∷ 101 ∷ 32 ∷ 53 ∷ 32 ∷ 53 ∷ 10
    ∷ 101 ∷ 32 ∷ 49 ∷ 32 ∷ 50 ∷ 10
    ∷ 101 ∷ 32 ∷ 50 ∷ 32 ∷ 51 ∷ 10
    ∷ 101 ∷ 32 ∷ 51 ∷ 32 ∷ 52 ∷ 10
    ∷ 101 ∷ 32 ∷ 52 ∷ 32 ∷ 53 ∷ 10
    ∷ 101 ∷ 32 ∷ 49 ∷ 32 ∷ 53 ∷ 10
    ∷ []

-- "groups 3", and then two groups of two
front : List ℕ
front =
    103 ∷ 114 ∷ 111 ∷ 117 ∷ 112 ∷ 115 ∷ 32 ∷ 51 ∷ 10
    ∷ 115 ∷ 105 ∷ 122 ∷ 101 ∷ 32 ∷ 50 ∷ 10
    ∷ 49 ∷ 10
    ∷ 51 ∷ 10
    ∷ 115 ∷ 105 ∷ 122 ∷ 101 ∷ 32 ∷ 50 ∷ 10
    ∷ 50 ∷ 10
    ∷ 52 ∷ 10
    ∷ []

-- the number, the line, k, and the text at fault
abbrev Gives : List ℕ → ℕ → ℕ → ℕ → Text → Type 0
Gives s number line groups text =
    numbers_of_lem (answer_in (check_of true five s 5)) ≡ record { number = number; line = line; column = 0; groups = groups; text = text }

-- "size 1", "5"
accepted_is : Gives (front ++ 115 ∷ 105 ∷ 122 ∷ 101 ∷ 32 ∷ 49 ∷ 10 ∷ 53 ∷ 10 ∷ []) 0 0 3 Neither
unfolding five front
accepted_is = refl

colours_are : written_of (check_of true five (front ++ 115 ∷ 105 ∷ 122 ∷ 101 ∷ 32 ∷ 49 ∷ 10 ∷ 53 ∷ 10 ∷ []) 5) [] ≡ 0 ∷ 1 ∷ 0 ∷ 1 ∷ 2 ∷ []
unfolding five front
colours_are = refl

-- "size 1", "4": in an earlier group
twice_is : Gives (front ++ 115 ∷ 105 ∷ 122 ∷ 101 ∷ 32 ∷ 49 ∷ 10 ∷ 52 ∷ 10 ∷ []) 33 9 0 TheSheet
unfolding five front
twice_is = refl

-- "size 1": over before its counts are met
ends_is : Gives (front ++ 115 ∷ 105 ∷ 122 ∷ 101 ∷ 32 ∷ 49 ∷ 10 ∷ []) 35 9 0 TheSheet
unfolding five front
ends_is = refl

-- "size 1", "5", and a line more that is not ended
extra_is : Gives (front ++ 115 ∷ 105 ∷ 122 ∷ 101 ∷ 32 ∷ 49 ∷ 10 ∷ 53 ∷ 10 ∷ 120 ∷ []) 37 10 0 TheSheet
unfolding five front
extra_is = refl
