pub mod ValueLaws
pub mod RootLaws
pub mod SimpleLaws
