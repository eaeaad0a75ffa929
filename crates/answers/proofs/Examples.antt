-- The very bytes of a refusal's line, by computing.
use mathlib.Core.Path.{◌≡◌, refl}
use mathlib.Core.List.{[], ◌∷◌}
use Rattle.refusals.specs.declared.Refusal.TheVariants.{Digit, Second}
use Rattle.lines.specs.Numeral.{numeral}
use Rattle.answers.specs.Printed.{told_text}

-- "refused 21 line 3 column 3"
with_column :
    told_text Digit 3 3
    ≡ 114 ∷ 101 ∷ 102 ∷ 117 ∷ 115 ∷ 101 ∷ 100 ∷ 32 ∷ 50 ∷ 49 ∷ 32 ∷ 108 ∷ 105 ∷ 110 ∷ 101 ∷ 32 ∷ 51 ∷ 32 ∷ 99 ∷ 111 ∷ 108 ∷ 117 ∷ 109 ∷ 110 ∷ 32 ∷ 51
    ∷ 10 ∷ []
unfolding numeral
with_column = refl

-- "refused 12 line 3"
without_column : told_text Second 3 0 ≡ 114 ∷ 101 ∷ 102 ∷ 117 ∷ 115 ∷ 101 ∷ 100 ∷ 32 ∷ 49 ∷ 50 ∷ 32 ∷ 108 ∷ 105 ∷ 110 ∷ 101 ∷ 32 ∷ 51 ∷ 10 ∷ []
unfolding numeral
without_column = refl
