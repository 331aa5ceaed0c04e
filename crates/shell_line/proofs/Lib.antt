pub mod CommandLaws
pub mod EndLaws
pub mod QuestionLaws
pub mod Examples
pub mod Progress
pub mod Numbering
pub mod Theorems
