pub mod Late
pub mod Stage
