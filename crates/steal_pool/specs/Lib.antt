pub mod Often
pub mod Rule
pub mod PoolLaws
pub mod Rose
pub mod Tries
pub mod Pool
pub mod Taking
pub mod inner
