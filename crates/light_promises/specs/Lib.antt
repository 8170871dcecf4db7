-- What is promised of lights and of panels.
pub mod Lights
pub mod Strings
pub mod Range
pub mod Research
pub mod Panels
