pub mod FoundTexts
