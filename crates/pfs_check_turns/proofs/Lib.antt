mod KeyedLists
mod OrderedReplays
mod StepLists
mod TurnLists
