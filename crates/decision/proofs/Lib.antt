pub mod lists
pub mod desk
