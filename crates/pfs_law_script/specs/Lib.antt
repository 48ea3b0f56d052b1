pub mod Course
pub mod CourseSteps
pub mod ReportSpells
pub mod WholeCourse
pub mod BlocksAhead
pub mod PlayableBlocks
pub mod BlockExamples
