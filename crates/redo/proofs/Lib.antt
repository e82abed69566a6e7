mod Fitting
mod Parting
