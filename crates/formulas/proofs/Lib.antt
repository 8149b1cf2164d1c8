pub mod NodeSlots
