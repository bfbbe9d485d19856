-- Laws of blocks, and that facts last. Proofs of the crates above cite the laws themselves
-- (facts_last, reasons_last, reasons_suffice, starts_are_near_once, step_is_unique); status_laws cites
-- the lemmas too.
pub mod FactLaws
pub mod ArrivalFacts
pub mod AllowedLaws
pub mod BlockLaws
pub mod MeetingLaws
pub mod SettledLaws
pub mod StepLaws
