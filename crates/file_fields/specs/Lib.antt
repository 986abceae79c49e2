-- Fields of files.
pub mod Fields
pub use Rattle.text_lex.specs.Spelled
