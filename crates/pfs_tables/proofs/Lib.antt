mod EventWords
mod Examples
mod Fits
mod RowExamples
mod RowOrder
