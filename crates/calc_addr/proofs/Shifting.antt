-- References when rows are inserted and deleted.
-- ShiftedAreas: where cells of an area go.
-- ShiftLaws: shifted references stay valid, and a deletion undoes an insertion.
pub mod ShiftedAreas
pub mod ShiftLaws
