pub mod RunPositions
