pub mod Runs
pub mod Satisfaction
pub mod ShortForms
pub mod VerdictAsked
pub mod inner
