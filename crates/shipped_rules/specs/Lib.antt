pub mod ShippedRules
