mod Offers
mod ThreadPlaces
