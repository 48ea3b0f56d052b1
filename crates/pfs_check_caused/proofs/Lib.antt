pub mod CauseFacts
