pub mod Plans
pub mod PatchedTrees
pub mod Pooled
pub mod Growing
pub mod Renewals
