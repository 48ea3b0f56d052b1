mod EscapeLaws
mod PhaseReadings
mod PlaceLists
mod RankOrders
mod TableReadings
