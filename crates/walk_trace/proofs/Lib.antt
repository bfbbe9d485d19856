mod Found
mod Steps
mod Entered
mod Worked
