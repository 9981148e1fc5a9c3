-- References of a formula that moves.
-- MovedEnds: what becomes of the ends.
-- MoveLaws: moved references stay valid, and the opposite move gives them back.
pub mod MovedEnds
pub mod MoveLaws
