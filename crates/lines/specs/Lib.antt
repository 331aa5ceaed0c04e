pub mod CanonicalForm
pub mod Claims
pub mod Export
pub mod ExportClaims
