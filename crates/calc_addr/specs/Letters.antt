-- The letters of columns: A to Z are the columns 1 to 26, AA to ZZ those after them, AAA to AMJ the
-- rest. A word of letters is a number in base 26 whose digits go from 1 to 26.
use Rattle.std.specs.Prelude.{ℕ, zero, suc, ◌+◌, ◌-◌, ◌*◌, ◌/◌, ◌%◌, ◌==◌, if◌then◌else◌, List, [], ◌∷◌, ◌++◌, fold}
use Rattle.std.specs.Char.{to_ascii_uppercase}

-- the last letters of a column, at most as many as the first number says
abbrev pub last_letters : ℕ → ℕ → List ℕ
last_letters zero n = []
last_letters (suc k) n = if n == 0 then [] else last_letters k ((n - 1) / 26) ++ (65 + (n - 1) % 26) ∷ []

-- the letters of a column; the sheet's columns have three at most
unfoldable pub column_letters : ℕ → List ℕ
column_letters n = last_letters 3 n

-- 1 for A or a, up to 26 for Z or z
abbrev pub letter_value : ℕ → ℕ
letter_value c = to_ascii_uppercase c - 64

-- the column that letters name
abbrev pub column_number : List ℕ → ℕ
column_number letters = fold (λ n c. n * 26 + letter_value c) 0 letters
