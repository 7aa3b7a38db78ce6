pub mod LiveSpelling
pub mod LiveFits
pub mod LiveReading
pub mod LiveMarks
