mod Converting
mod ReplaySteps
mod CountSteps
mod Greatest
mod FrontSteps
mod Turns
mod Ascending
mod AnswerSteps
mod HearSteps
mod ServedInTurn
pub mod Facts
