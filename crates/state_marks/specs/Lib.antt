-- Words of private functions; no public contract cites them.
pub mod Inner
