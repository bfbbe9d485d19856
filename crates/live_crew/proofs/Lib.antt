mod Piecewise
mod Notes
-- Outlines is cited by proofs of the crates above.
pub mod Outlines
