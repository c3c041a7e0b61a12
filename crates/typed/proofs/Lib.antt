pub mod Numbers
pub mod Rosters
pub mod Steps
pub mod NotedWords
pub mod WrongWords
pub mod WrongRosters
pub mod Places
