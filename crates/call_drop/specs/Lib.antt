pub mod DropRefusal
pub mod DropSteps
