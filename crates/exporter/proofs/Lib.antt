pub mod Closing
pub mod Measuring
pub mod Printing
pub mod SortedLines
pub mod Exporting
