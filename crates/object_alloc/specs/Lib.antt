-- Objects in rows: which rows are free, the table as a list, and the image file.
pub mod Free
pub mod Listed
pub mod Bytes
pub mod Spelling
pub mod Reading
pub mod Exact
pub use Rattle.text_lex.specs.Spelled
