pub mod PooledTrees
pub mod PoolGrowth
pub mod Patched
pub mod Planted
pub mod PatchLoops
