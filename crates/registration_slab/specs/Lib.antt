-- Changes: what becomes of registrations.
-- Cuts: rows that are cut out of them.
-- Joining: runs that go on where others end.
-- Slab: registrations of runs by place, what their rows read, and who listens to it.
pub mod Changes
pub mod Cuts
pub mod Joining
pub mod Slab
