pub mod AtMost
