pub mod FlagOfRow
