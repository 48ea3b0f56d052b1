mod ScriptExamples
mod RunExamples
mod SelectExamples
