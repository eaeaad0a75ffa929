-- Nodes: graphs as functions, what they satisfy, how they are held in words, and what is promised of them.
pub mod Graph
pub mod Good
pub mod Held
pub mod Acts
