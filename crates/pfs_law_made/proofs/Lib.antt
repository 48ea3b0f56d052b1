pub mod MadeChanges
mod OnlyContents
