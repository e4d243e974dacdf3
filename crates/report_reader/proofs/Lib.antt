pub mod Decimals
pub mod Parts
pub mod Back
pub mod AnswersBack
pub mod OutcomesBack
pub mod LinesBack
pub mod Said
