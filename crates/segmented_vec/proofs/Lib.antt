pub mod SegmentItems
