-- Where a refused file is at fault: of any file that is read field by field, of image files,
-- program files and trace files.
pub mod Stands
pub mod Images
pub mod Programs
pub mod Traces
