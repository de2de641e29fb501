pub mod TaskRuns
pub mod StrandRuns
