pub mod Adjacent
pub mod Placed
pub mod Numbers
pub mod Few
pub mod LeadsOnward
pub mod ListedEnds
pub mod OneByOne
pub mod ReasonsFound
