pub mod MadeContents
