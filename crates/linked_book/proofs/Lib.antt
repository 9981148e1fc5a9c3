-- what cells hold after one is set, and after an area is emptied
pub mod CellsAfter
-- books of the same cells
pub mod SameCells
-- what holds where an edit was made
pub mod Made
