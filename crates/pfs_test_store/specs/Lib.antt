pub mod ActorStores
