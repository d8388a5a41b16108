pub mod Finding
pub mod Opens
