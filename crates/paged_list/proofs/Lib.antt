mod Packs
mod Places
mod Passed
mod Edits
mod Widened
mod Moves
