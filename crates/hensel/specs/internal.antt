-- Definitions that no contract cites.
pub mod Joined
