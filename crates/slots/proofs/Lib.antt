pub mod LivePlaces
