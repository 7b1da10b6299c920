pub mod Answers
pub mod Laws
pub mod Journals
pub mod Headline
