pub mod RunLaws
pub mod Each
pub mod ExecLaws
pub mod Computing
pub mod ScriptRuns
