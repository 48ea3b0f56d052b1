mod TopRanks
mod TopSearch
mod TopValues
