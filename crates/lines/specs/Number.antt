-- Numbers of 1 to 7 digits without leading zero; "0" itself may stand.
--
--   digit b     : the byte b is one of 0 to 9
--   digits s    : the digits at the front of s, as many as stand there
--   value v ds  : v and then the digits ds, read in tens
--   proper k d  : k digits, the first of them d, are a number
--   number_of s : the number at the front of s, with how many bytes it takes, if one stands there
--
-- Assumes nothing.
use Rattle.std.specs.Prelude.{ℕ, ◌+◌, ◌-◌, ◌*◌, List, [], ◌∷◌, Bool, true, false, Option, None, Some, cond, length, get_or, leb, eqb}

abbrev pub digit : ℕ → Bool
digit b = cond (leb 48 b) (leb b 57) false

abbrev pub digits : List ℕ → List ℕ
digits [] = []
digits (b ∷ s) = cond (digit b) (b ∷ digits s) []

abbrev pub value : ℕ → List ℕ → ℕ
value v [] = v
value v (d ∷ ds) = value (v * 10 + (d - 48)) ds

-- from 1 to 7 digits; a first 0 stands alone
abbrev pub proper : ℕ → ℕ → Bool
proper k d = cond (leb 1 k) (cond (leb k 7) (cond (eqb d 48) (leb k 1) true) false) false

abbrev pub number_of : List ℕ → Option (ℕ × ℕ)
number_of s = cond (proper (length (digits s)) (get_or s 0 0)) (Some (value 0 (digits s), length (digits s))) None
