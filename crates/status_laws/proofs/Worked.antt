-- Facts by computation on the worked rows.
pub mod SelfCallClosed
