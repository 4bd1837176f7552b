-- On tables of zones.
pub mod HeadPlaces
pub mod ZoneAppended
pub mod ZoneKept
pub mod ZoneNames
pub mod ZonePlaces
pub mod ZonePushed
pub mod ZoneTables
pub mod ZonesGiven
