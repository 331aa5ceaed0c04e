pub mod Inside
pub mod Endings
pub mod Loading
pub mod ExportedFile
pub mod Theorems
pub mod Source
