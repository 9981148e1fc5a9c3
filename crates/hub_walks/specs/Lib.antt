-- Books: hubs whose cells all lie above a known row.
pub mod Books
