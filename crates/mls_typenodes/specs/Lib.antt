pub mod OneEach
pub mod ReadPlaces
