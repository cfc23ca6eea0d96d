mod Telling
mod Driving
mod Running
