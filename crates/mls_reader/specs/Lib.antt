pub mod steps
pub use Rattle.mls_grammar.specs.Modules
pub use Rattle.mls_grammar.specs.FirstFaults
