pub mod ColumnLaws
pub mod ColumnsSetLaws
pub mod SolveLaws
