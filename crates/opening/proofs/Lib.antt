mod Refused
mod StepsKeep
mod Beginnings
mod Anew
mod Recoveries
