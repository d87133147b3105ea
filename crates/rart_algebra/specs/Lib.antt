pub mod Ahead
pub mod Among
pub mod Gains
pub mod Parts
pub mod Picks
