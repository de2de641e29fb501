pub mod StopsObserved
pub mod NodeAnswers
pub mod EventsOfPedigree
