mod BlankWorks
mod OpenStores
mod WrittenWords
