pub mod JsonFaults
pub mod JsonLists
pub mod JsonWriting
pub mod RoundTrip
