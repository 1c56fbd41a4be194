pub mod Calls
pub mod Replay
pub mod Filling
pub mod Afresh
pub mod internal
