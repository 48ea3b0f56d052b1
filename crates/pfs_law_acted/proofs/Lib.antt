mod ActedParts
mod SetsLast
