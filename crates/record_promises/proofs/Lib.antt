-- Laws of records that are written and read, and of a page's ends.
pub mod Round
pub mod Ends
