pub mod CallLaws
pub mod CrashLaws
pub mod DiskLaws
