pub mod Indices
pub mod Fillings
pub mod Fitting
pub mod FilledRows
