pub mod SegmentedVec
