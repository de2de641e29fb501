pub mod OneSoundStop
pub mod MovesUseSteps
pub mod TasksReachStops
pub mod StopsLeaveFewer
