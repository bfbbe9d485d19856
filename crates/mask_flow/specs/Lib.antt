-- Masks that spread backwards along the ways of a graph.
pub mod Reaches
pub mod Inner
