pub mod Lines
pub mod Ways
pub mod Valid
pub mod Shown
pub mod Told
pub mod FileCertificate
pub mod FileShown
