pub mod Calls
pub mod Causes
pub mod FileShelf
pub mod Limits
pub mod MemoryShelf
pub mod MemorySink
pub mod WriterSink
pub mod Shelf
