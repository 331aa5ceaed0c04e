pub mod Legible
pub mod Printed
