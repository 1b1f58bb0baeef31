mod Joined
mod Located
mod Showing
