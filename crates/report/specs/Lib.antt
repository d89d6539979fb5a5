pub mod Lines
pub mod Reports
