pub mod Asking
pub mod FileText
