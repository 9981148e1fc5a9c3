-- Distances: a relative reference at its cell is the reference.
-- NodeLists: the nodes of trees. Building: nodes build their tree.
pub mod Distances
pub mod NodeLists
pub mod Built
pub mod Strips
pub mod FormDigests
pub mod FormedTrees
pub mod CountedNodes
pub mod Forms
pub mod KeptForms
pub mod SlotLemmas
pub mod TableLemmas
pub mod SameNames
pub mod EarLists
pub mod RunReads
pub mod StayingForms
pub mod FormsBack
pub mod Totals
mod FormExamples
