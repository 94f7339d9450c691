pub mod SlotLaws
pub mod StandingLaws
pub mod ScopeLaws
pub mod Closing
pub mod Nesting
pub mod ChainLaws
pub mod NameLaws
pub mod VacatingLaws
