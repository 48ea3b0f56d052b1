mod EndVersions
mod FittingFlags
mod FittingSets
mod ShownEnds
