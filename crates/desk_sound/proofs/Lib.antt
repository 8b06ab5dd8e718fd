mod Example
pub mod Unbroken
pub mod Placed
pub mod FilesKept
pub mod RowsKept
pub mod Tables
pub mod Migrated
pub mod Sites
pub mod Accepted
pub mod RulesKept
