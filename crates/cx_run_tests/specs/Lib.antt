pub mod Runnable
