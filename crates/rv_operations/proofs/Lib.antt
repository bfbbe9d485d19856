mod HighHalves
mod Worked
