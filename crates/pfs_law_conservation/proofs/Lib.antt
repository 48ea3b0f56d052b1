mod InfoNews
mod LevelPlaces
mod ActionSigns
pub mod SettledAdditions
pub mod CellMoves
mod InfoAdditions
pub mod InfoActions
mod VersionActions
mod LastSigns
mod LevelSigns
mod FreedPlaces
mod TruncationSigns
mod RunSigns
mod InfoRows
mod PlaceLimits
mod PlacesInUse
mod InfoRowExamples
mod ConservationExamples
pub mod RowLines
pub mod LineVersions
mod RowActions
mod SessionVersions
pub mod ActionJournals
pub mod ActionPhases
mod PrintedMoves
mod PutSources
mod RingWrites
pub mod PlaceFolds
pub mod SlotMoves
pub mod QuitMoves
pub mod FixedCells
mod RowRanges
mod PlaceMoves
pub mod MoveLevels
mod TruncationMoves
pub mod LabelMoves
pub mod InfoTags
pub mod ChosenLines
mod ActedLines
mod ActionHeads
pub mod EntryWalk
pub mod EventNumbers
pub mod PhaseEntries
pub mod AdditionSources
pub mod EventOffers
mod HeldAdditions
mod BlockSettlements
pub mod AdditionCounts
pub mod HomeRows
mod EndedSubjects
mod SingleAdditions
pub mod ConnectSlots
pub mod FirstConnects
mod IdleAdditions
pub mod AdditionFloors
pub mod SingleQuits
pub mod RunEntries
mod HomeAdditions
pub mod SessionThreads
mod PrintedTakes
pub mod AdditionOrder
pub mod ConnectLines
pub mod ActionNumbers
mod QuitTakes
mod AdditionLaw
mod EntrySources
mod RowContents
mod SingleTakes
mod GiftLevels
mod LineContents
mod ChosenContents
mod KindContents
pub mod KindRows
pub mod LastSlots
mod KeySums
mod AnyOrder
mod ChainTakes
mod DiscardedEvents
mod GlobalTakes
mod DigestRanges
mod DigestMoves
mod DigestLines
mod DigestContents
mod DigestAdditions
mod ClearedRows
mod DigestSums
mod KeptPlaces
mod AccountTruncations
mod OwnPlaces
mod SummaryTruncations
mod TableWords
mod TruncationOrder
mod TruncationExamples
pub mod IdleEntries
pub mod SourcedEntries
pub mod AdditionRows
