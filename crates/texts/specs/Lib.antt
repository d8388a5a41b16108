pub mod Spell
pub mod Numbers
pub mod Put
