pub mod Opened
pub mod LineFiles
pub mod ListRun
pub mod Program
