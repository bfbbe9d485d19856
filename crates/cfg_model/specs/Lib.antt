pub mod Program
pub mod Graph
pub mod Builder
pub mod Inner
