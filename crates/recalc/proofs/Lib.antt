-- results that come to cells
pub mod Adding
-- results before each wave, and in the end
pub mod Waving
-- lists of cells as runs, and as tests
pub mod Listed
-- results before the first wave, and all in the end
pub mod Starting
-- how many cells pass a test
pub mod Counting
-- how many steps the waves take
pub mod Spending
-- units that are found
pub mod UnitLists
-- which code rows have
pub mod UnitRows
-- units by codes and by forms
pub mod UnitForms
-- the waves of the book
pub mod UnitWaves
-- values that come to all cells of a run at once
pub mod RunValues
