mod NoteSteps
