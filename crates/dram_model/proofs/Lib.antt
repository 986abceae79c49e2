pub mod ColumnLaws
pub mod EventLaws
pub mod RowWrites
pub mod Shapes
