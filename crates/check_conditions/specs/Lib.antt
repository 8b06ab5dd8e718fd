pub mod ToolNames
pub mod Foreign
pub mod ToolNotes
pub mod Kept
