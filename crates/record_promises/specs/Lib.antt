-- What is promised of records and of the page.
pub mod Records
pub mod Pages
