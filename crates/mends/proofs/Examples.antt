-- Sheets mended by computing: what is printed, byte for byte, or the refusal. The expected answers are another program's.
use mathlib.Core.Path.{◌≡◌, refl}
use mathlib.Core.List.{[], ◌∷◌}
use native.Mathlib.Decide.{ℕ_discrete}
use Rattle.clashes.specs.Matrix.{matrix}
use Rattle.clashes.specs.Labels.{member}
use Rattle.lines.specs.Numeral.{numeral}
use Rattle.sheets.specs.declared.SheetFault.TheVariants.{Line, Extra}
use Rattle.sheet_texts.specs.Sheet.{sheet_text}
use Rattle.mends.specs.Report.{output_text}
use Rattle.mends.specs.Promise.{printed, refused, mend_sheet_lem}

-- dropped 4 | put 1 group 1 | put 3 group 3 | groups 3 | size 1 | 1 | size 1 | 2 | size 1 | 3 |
mends9 : output_text 3 (matrix (6 ∷ 5 ∷ 3 ∷ [])) ((2 ∷ 2 ∷ []) ∷ [])
    ≡ 100 ∷ 114 ∷ 111 ∷ 112 ∷ 112 ∷ 101 ∷ 100 ∷ 32 ∷ 52 ∷ 10 ∷ 112 ∷ 117 ∷ 116 ∷ 32 ∷ 49 ∷ 32 ∷ 103 ∷ 114 ∷ 111 ∷ 117 ∷ 112 ∷ 32 ∷ 49 ∷ 10 ∷ 112 ∷ 117 ∷ 116 ∷ 32 ∷
    51 ∷ 32 ∷ 103 ∷ 114 ∷ 111 ∷ 117 ∷ 112 ∷ 32 ∷ 51 ∷ 10 ∷ 103 ∷ 114 ∷ 111 ∷ 117 ∷ 112 ∷ 115 ∷ 32 ∷ 51 ∷ 10 ∷ 115 ∷ 105 ∷ 122 ∷ 101 ∷ 32 ∷ 49 ∷ 10 ∷ 49 ∷ 10 ∷
    115 ∷ 105 ∷ 122 ∷ 101 ∷ 32 ∷ 49 ∷ 10 ∷ 50 ∷ 10 ∷ 115 ∷ 105 ∷ 122 ∷ 101 ∷ 32 ∷ 49 ∷ 10 ∷ 51 ∷ 10 ∷ []
unfolding member ℕ_discrete numeral sheet_text
mends9 = refl

-- dropped 5 | dropped 8 | put 1 group 1 | put 2 group 2 | put 4 group 2 | groups 3 | size 1 | 1 | size 4 | 2 | 3 | 4 | 7 | size 2 | 5 | 6 |
mends12 : output_text 7 (matrix (92 ∷ 32 ∷ 17 ∷ 17 ∷ 13 ∷ 2 ∷ 1 ∷ [])) ((7 ∷ 3 ∷ 0 ∷ []) ∷ (6 ∷ 6 ∷ 5 ∷ []) ∷ [])
    ≡ 100 ∷ 114 ∷ 111 ∷ 112 ∷ 112 ∷ 101 ∷ 100 ∷ 32 ∷ 53 ∷ 10 ∷ 100 ∷ 114 ∷ 111 ∷ 112 ∷ 112 ∷ 101 ∷ 100 ∷ 32 ∷ 56 ∷ 10 ∷ 112 ∷ 117 ∷ 116 ∷ 32 ∷ 49 ∷ 32 ∷ 103 ∷ 114 ∷
    111 ∷ 117 ∷ 112 ∷ 32 ∷ 49 ∷ 10 ∷ 112 ∷ 117 ∷ 116 ∷ 32 ∷ 50 ∷ 32 ∷ 103 ∷ 114 ∷ 111 ∷ 117 ∷ 112 ∷ 32 ∷ 50 ∷ 10 ∷ 112 ∷ 117 ∷ 116 ∷ 32 ∷ 52 ∷ 32 ∷ 103 ∷ 114 ∷
    111 ∷ 117 ∷ 112 ∷ 32 ∷ 50 ∷ 10 ∷ 103 ∷ 114 ∷ 111 ∷ 117 ∷ 112 ∷ 115 ∷ 32 ∷ 51 ∷ 10 ∷ 115 ∷ 105 ∷ 122 ∷ 101 ∷ 32 ∷ 49 ∷ 10 ∷ 49 ∷ 10 ∷ 115 ∷ 105 ∷ 122 ∷ 101 ∷
    32 ∷ 52 ∷ 10 ∷ 50 ∷ 10 ∷ 51 ∷ 10 ∷ 52 ∷ 10 ∷ 55 ∷ 10 ∷ 115 ∷ 105 ∷ 122 ∷ 101 ∷ 32 ∷ 50 ∷ 10 ∷ 53 ∷ 10 ∷ 54 ∷ 10 ∷ []
unfolding member ℕ_discrete numeral sheet_text
mends12 = refl

-- dropped 3 | dropped 6 | dropped 7 | dropped 8 | dropped 12 | dropped 13 | dropped 16 | dropped 17 | dropped 18 | put 1 group 1 | put 4 group 1 | put 7 group 3 | groups 3 | size 3 | 1 | 3 | 4 | size 2 | 2 | 6 | size 2 | 5 | 7 |
mends3 : output_text 7 (matrix (18 ∷ 1 ∷ 64 ∷ 16 ∷ 9 ∷ 64 ∷ 36 ∷ [])) ((0 ∷ 5 ∷ []) ∷ (0 ∷ 8 ∷ 0 ∷ 3 ∷ []) ∷ (6 ∷ 5 ∷ 9 ∷ 2 ∷ []) ∷ (0 ∷ 0 ∷ 3 ∷ []) ∷ [])
    ≡ 100 ∷ 114 ∷ 111 ∷ 112 ∷ 112 ∷ 101 ∷ 100 ∷ 32 ∷ 51 ∷ 10 ∷ 100 ∷ 114 ∷ 111 ∷ 112 ∷ 112 ∷ 101 ∷ 100 ∷ 32 ∷ 54 ∷ 10 ∷ 100 ∷ 114 ∷ 111 ∷ 112 ∷ 112 ∷ 101 ∷ 100 ∷ 32 ∷
    55 ∷ 10 ∷ 100 ∷ 114 ∷ 111 ∷ 112 ∷ 112 ∷ 101 ∷ 100 ∷ 32 ∷ 56 ∷ 10 ∷ 100 ∷ 114 ∷ 111 ∷ 112 ∷ 112 ∷ 101 ∷ 100 ∷ 32 ∷ 49 ∷ 50 ∷ 10 ∷ 100 ∷ 114 ∷ 111 ∷ 112 ∷ 112 ∷
    101 ∷ 100 ∷ 32 ∷ 49 ∷ 51 ∷ 10 ∷ 100 ∷ 114 ∷ 111 ∷ 112 ∷ 112 ∷ 101 ∷ 100 ∷ 32 ∷ 49 ∷ 54 ∷ 10 ∷ 100 ∷ 114 ∷ 111 ∷ 112 ∷ 112 ∷ 101 ∷ 100 ∷ 32 ∷ 49 ∷ 55 ∷ 10 ∷
    100 ∷ 114 ∷ 111 ∷ 112 ∷ 112 ∷ 101 ∷ 100 ∷ 32 ∷ 49 ∷ 56 ∷ 10 ∷ 112 ∷ 117 ∷ 116 ∷ 32 ∷ 49 ∷ 32 ∷ 103 ∷ 114 ∷ 111 ∷ 117 ∷ 112 ∷ 32 ∷ 49 ∷ 10 ∷ 112 ∷ 117 ∷ 116 ∷
    32 ∷ 52 ∷ 32 ∷ 103 ∷ 114 ∷ 111 ∷ 117 ∷ 112 ∷ 32 ∷ 49 ∷ 10 ∷ 112 ∷ 117 ∷ 116 ∷ 32 ∷ 55 ∷ 32 ∷ 103 ∷ 114 ∷ 111 ∷ 117 ∷ 112 ∷ 32 ∷ 51 ∷ 10 ∷ 103 ∷ 114 ∷ 111 ∷
    117 ∷ 112 ∷ 115 ∷ 32 ∷ 51 ∷ 10 ∷ 115 ∷ 105 ∷ 122 ∷ 101 ∷ 32 ∷ 51 ∷ 10 ∷ 49 ∷ 10 ∷ 51 ∷ 10 ∷ 52 ∷ 10 ∷ 115 ∷ 105 ∷ 122 ∷ 101 ∷ 32 ∷ 50 ∷ 10 ∷ 50 ∷ 10 ∷
    54 ∷ 10 ∷ 115 ∷ 105 ∷ 122 ∷ 101 ∷ 32 ∷ 50 ∷ 10 ∷ 53 ∷ 10 ∷ 55 ∷ 10 ∷ []
unfolding member ℕ_discrete numeral sheet_text
mends3 = refl

-- 'groups 1\nsize 3\n1\n1\n1\n': dropped 4
sheet0 : mend_sheet_lem 2 (matrix (2 ∷ 1 ∷ [])) (103 ∷ 114 ∷ 111 ∷ 117 ∷ 112 ∷ 115 ∷ 32 ∷ 49 ∷ 10 ∷ 115 ∷ 105 ∷ 122 ∷ 101 ∷ 32 ∷ 51 ∷ 10 ∷ 49 ∷ 10 ∷ 49 ∷ 10 ∷ 49 ∷ 10 ∷ [])
    ≡ printed (100 ∷ 114 ∷ 111 ∷ 112 ∷ 112 ∷ 101 ∷ 100 ∷ 32 ∷ 52 ∷ 10 ∷ 100 ∷ 114 ∷ 111 ∷ 112 ∷ 112 ∷ 101 ∷ 100 ∷ 32 ∷ 53 ∷ 10 ∷ 112 ∷ 117 ∷ 116 ∷ 32 ∷ 50 ∷ 32 ∷ 103 ∷ 114 ∷
    111 ∷ 117 ∷ 112 ∷ 32 ∷ 50 ∷ 10 ∷ 103 ∷ 114 ∷ 111 ∷ 117 ∷ 112 ∷ 115 ∷ 32 ∷ 50 ∷ 10 ∷ 115 ∷ 105 ∷ 122 ∷ 101 ∷ 32 ∷ 49 ∷ 10 ∷ 49 ∷ 10 ∷ 115 ∷ 105 ∷ 122 ∷ 101 ∷
    32 ∷ 49 ∷ 10 ∷ 50 ∷ 10 ∷ [])
unfolding member ℕ_discrete numeral sheet_text
sheet0 = refl

-- 'groups 1\nsize 3\n2\n1\n3\n': put 3 group 2
sheet6 : mend_sheet_lem 4 (matrix (12 ∷ 0 ∷ 1 ∷ 1 ∷ [])) (103 ∷ 114 ∷ 111 ∷ 117 ∷ 112 ∷ 115 ∷ 32 ∷ 49 ∷ 10 ∷ 115 ∷ 105 ∷ 122 ∷ 101 ∷ 32 ∷ 51 ∷ 10 ∷ 50 ∷ 10 ∷ 49 ∷ 10 ∷ 51 ∷ 10 ∷ [])
    ≡ printed (112 ∷ 117 ∷ 116 ∷ 32 ∷ 51 ∷ 32 ∷ 103 ∷ 114 ∷ 111 ∷ 117 ∷ 112 ∷ 32 ∷ 50 ∷ 10 ∷ 112 ∷ 117 ∷ 116 ∷ 32 ∷ 52 ∷ 32 ∷ 103 ∷ 114 ∷ 111 ∷ 117 ∷ 112 ∷ 32 ∷ 50 ∷ 10 ∷
    103 ∷ 114 ∷ 111 ∷ 117 ∷ 112 ∷ 115 ∷ 32 ∷ 50 ∷ 10 ∷ 115 ∷ 105 ∷ 122 ∷ 101 ∷ 32 ∷ 50 ∷ 10 ∷ 49 ∷ 10 ∷ 50 ∷ 10 ∷ 115 ∷ 105 ∷ 122 ∷ 101 ∷ 32 ∷ 50 ∷ 10 ∷ 51 ∷
    10 ∷ 52 ∷ 10 ∷ [])
unfolding member ℕ_discrete numeral sheet_text
sheet6 = refl

-- 'groups 1\nsize 3\n4\n4\n0\n': dropped 4
sheet9 : mend_sheet_lem 5 (matrix (14 ∷ 5 ∷ 11 ∷ 21 ∷ 8 ∷ [])) (103 ∷ 114 ∷ 111 ∷ 117 ∷ 112 ∷ 115 ∷ 32 ∷ 49 ∷ 10 ∷ 115 ∷ 105 ∷ 122 ∷ 101 ∷ 32 ∷ 51 ∷ 10 ∷ 52 ∷ 10 ∷ 52 ∷ 10 ∷ 48 ∷ 10 ∷ [])
    ≡ printed (100 ∷ 114 ∷ 111 ∷ 112 ∷ 112 ∷ 101 ∷ 100 ∷ 32 ∷ 52 ∷ 10 ∷ 100 ∷ 114 ∷ 111 ∷ 112 ∷ 112 ∷ 101 ∷ 100 ∷ 32 ∷ 53 ∷ 10 ∷ 112 ∷ 117 ∷ 116 ∷ 32 ∷ 49 ∷ 32 ∷ 103 ∷ 114 ∷
    111 ∷ 117 ∷ 112 ∷ 32 ∷ 49 ∷ 10 ∷ 112 ∷ 117 ∷ 116 ∷ 32 ∷ 50 ∷ 32 ∷ 103 ∷ 114 ∷ 111 ∷ 117 ∷ 112 ∷ 32 ∷ 50 ∷ 10 ∷ 112 ∷ 117 ∷ 116 ∷ 32 ∷ 51 ∷ 32 ∷ 103 ∷ 114 ∷
    111 ∷ 117 ∷ 112 ∷ 32 ∷ 51 ∷ 10 ∷ 112 ∷ 117 ∷ 116 ∷ 32 ∷ 53 ∷ 32 ∷ 103 ∷ 114 ∷ 111 ∷ 117 ∷ 112 ∷ 32 ∷ 49 ∷ 10 ∷ 103 ∷ 114 ∷ 111 ∷ 117 ∷ 112 ∷ 115 ∷ 32 ∷ 51 ∷
    10 ∷ 115 ∷ 105 ∷ 122 ∷ 101 ∷ 32 ∷ 50 ∷ 10 ∷ 49 ∷ 10 ∷ 53 ∷ 10 ∷ 115 ∷ 105 ∷ 122 ∷ 101 ∷ 32 ∷ 50 ∷ 10 ∷ 50 ∷ 10 ∷ 52 ∷ 10 ∷ 115 ∷ 105 ∷ 122 ∷ 101 ∷ 32 ∷
    49 ∷ 10 ∷ 51 ∷ 10 ∷ [])
unfolding member ℕ_discrete numeral sheet_text
sheet9 = refl

-- ' groups 1\nsize 2\n3\n2\n': refused 30 line 1
sheet5 : mend_sheet_lem 4 (matrix (0 ∷ 0 ∷ 0 ∷ 0 ∷ [])) (32 ∷ 103 ∷ 114 ∷ 111 ∷ 117 ∷ 112 ∷ 115 ∷ 32 ∷ 49 ∷ 10 ∷ 115 ∷ 105 ∷ 122 ∷ 101 ∷ 32 ∷ 50 ∷ 10 ∷ 51 ∷ 10 ∷ 50 ∷ 10 ∷ [])
    ≡ refused (record { why = Line; line = 1 })
unfolding member ℕ_discrete numeral sheet_text
sheet5 = refl

-- 'groups 0\nsize 1\n': refused 37 line 2
sheet7 : mend_sheet_lem 3 (matrix (2 ∷ 5 ∷ 2 ∷ [])) (103 ∷ 114 ∷ 111 ∷ 117 ∷ 112 ∷ 115 ∷ 32 ∷ 48 ∷ 10 ∷ 115 ∷ 105 ∷ 122 ∷ 101 ∷ 32 ∷ 49 ∷ 10 ∷ [])
    ≡ refused (record { why = Extra; line = 2 })
unfolding member ℕ_discrete numeral sheet_text
sheet7 = refl
