pub mod LoadText
pub mod LoadPhases
pub mod OneText
pub mod LoadExamples
