pub mod SameMarks
pub mod FlaggedMarks
pub mod SetRows
mod SameFlagged
mod NumbersRise
mod SetValues
mod Places
pub mod NumberedRows
pub mod NumberedLaws
