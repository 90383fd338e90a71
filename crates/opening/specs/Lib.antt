pub use Rattle.session.specs.Sessions
pub mod Opening
