-- What a reader must believe of the report's lines.
pub mod Decimal
pub mod Texts
pub mod Lines
pub mod Reports
