pub mod RowKeys
pub mod Instants
pub mod Validity
pub mod Rows
pub mod Ordered
pub mod Ends
pub mod Holding
pub mod Keeping
