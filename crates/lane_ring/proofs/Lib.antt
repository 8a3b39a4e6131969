pub mod Draining
pub mod Rising
pub mod Views
