-- What the words of a command line ask.
pub mod Commands
pub mod Lines
pub mod PqxCommands
pub mod Described
pub mod PqxLines
pub mod Faults
