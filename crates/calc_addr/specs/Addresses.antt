-- How a cell is printed: the letters of its column in capitals, then its row, and before them the
-- sheet where it isn't the first one, as in `Sheet2.B1`.
use Rattle.std.specs.Prelude.{ℕ, ◌+◌, ◌==◌, if◌then◌else◌, List, [], ◌++◌, codes, decimal}
use Rattle.calc_addr.specs.Places.{Place, Rows}
use Rattle.calc_addr.specs.Letters.{column_letters}

-- the sheet's word: `Sheet1` for the first sheet, which has the number 0
abbrev pub sheet_word : ℕ → List ℕ
sheet_word sheet = codes "Sheet" ++ decimal (sheet + 1)

-- what stands before an address: nothing for the first sheet
abbrev pub sheet_prefix : ℕ → List ℕ
sheet_prefix sheet = if sheet == 0 then [] else sheet_word sheet ++ codes "."

abbrev pub address : Place → List ℕ
address p = sheet_prefix p.sheet ++ (column_letters p.col ++ decimal p.row)

-- rows of one column, from the first to the last, as in `Sheet2.B1:B6`
abbrev pub printed_rows : Rows → List ℕ
printed_rows r = address (record { sheet = r.sheet; col = r.col; row = r.first }) ++ codes ":" ++ (column_letters r.col ++ decimal r.last)
