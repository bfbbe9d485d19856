mod Ending
mod Reasons
mod Caching
mod Losing
mod GivenBack
