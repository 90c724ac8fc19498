pub mod MethodObjects
