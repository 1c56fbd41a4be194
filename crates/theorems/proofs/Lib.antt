pub mod TheoremsLaws
pub mod StarredLaws
