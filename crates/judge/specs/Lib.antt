pub mod Comparing
pub mod Likeness
pub mod Replies
pub mod Judged
pub mod Receiving
pub mod Matching
pub mod Entering
pub mod Firsts
