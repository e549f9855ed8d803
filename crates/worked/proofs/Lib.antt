pub mod Curves
pub mod Bundles
pub mod Seasons
