pub mod WrongLines
