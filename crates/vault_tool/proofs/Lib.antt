pub mod Fronts
pub mod OneCall
pub mod AnswerDue
