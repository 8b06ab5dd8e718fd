mod Bodies
mod Cuts
mod Example
mod Fronts
