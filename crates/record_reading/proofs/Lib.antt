pub mod Tables
pub mod Forms
