pub mod MayWait
