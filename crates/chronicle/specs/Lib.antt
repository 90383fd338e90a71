pub use Rattle.atomic_table.specs.Seated
pub mod Chronicled
pub mod Rule
