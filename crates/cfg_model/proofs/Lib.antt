-- Program, Graphs and Builder hold the lemmas that proofs of the crates above cite.
pub mod Program
pub mod Graphs
pub mod Builder
pub mod Worked
