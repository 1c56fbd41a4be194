pub mod ValueLaws
pub mod HighLaws
pub mod ByteLaws
pub mod NumberLaws
pub mod ElementLaws
pub mod RunLaws
pub mod OutcomeLaws
