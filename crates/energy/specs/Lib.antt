pub use Rattle.wol_model.specs.Journal
pub mod Sums
