pub mod AnswerRuns
pub mod AnswersKeepTasks
pub mod Cutting
