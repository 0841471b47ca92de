mod Fitting
mod Fronts
mod OneMore
