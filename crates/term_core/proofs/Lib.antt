pub mod Evaluating
pub mod Gathered
pub mod Resumes
pub mod Kept
pub mod Agreeing
