mod DueTables
mod EndFaults
mod ListDifferences
mod LossCounts
mod LostCases
mod OneReading
