pub mod KeyTies
pub mod EntryMaps
pub mod HashedEntries
pub mod RowColumns
pub mod RowReads
pub mod FailingCalls
pub mod TableEntries
