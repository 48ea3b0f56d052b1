pub mod SessionNotes
