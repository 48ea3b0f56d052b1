pub mod InternedTexts
