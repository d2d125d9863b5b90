pub mod TreeMeasures
