pub mod InCommon
pub mod Listing
