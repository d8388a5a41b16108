pub mod Word
pub mod Led
