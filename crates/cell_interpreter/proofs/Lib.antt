-- Stacks: what a stack of operands means when one is pushed or taken. Acting: what a node makes of it. Running: nodes leave their
-- formula's meaning.
pub mod Stacks
pub mod Acting
pub mod Running
pub mod Passing
