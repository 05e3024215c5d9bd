-- What the models of the crate need besides their views: codes and sizes. No public clause cites it.
pub mod TestCode
pub mod TestFalls
