-- Pages: a page of a list.
pub mod Pages
