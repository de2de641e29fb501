pub mod Answered
pub mod Beginning
pub mod AnswersPut
pub mod Holding
pub mod Mains
pub mod TakingAnswers
pub mod Spawning
pub mod Staying
