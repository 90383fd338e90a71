pub use Rattle.atomic_table.specs.Seated
pub mod Rule
pub mod Counts
pub mod Accounts
