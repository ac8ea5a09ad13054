pub mod Bytes
pub mod Claims
pub mod Steps
pub mod EntryBytes
pub mod Trips
pub mod Walks
pub mod Writes
