mod Members
pub mod ToldOnce
pub mod ToldOnBoth
pub mod OneTold
pub mod OneSubject
