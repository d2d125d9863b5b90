-- A given module item is read: its names, imports, exports and the items of a module.
pub mod NamesGiven
pub mod SpecifiersGiven
pub mod SpecifierLoopGiven
pub mod ClausesGiven
pub mod ImportsGiven
pub mod ImportNodes
pub mod ExportsGiven
pub mod ExportNodes
pub mod ModuleItemsGiven
pub mod DeclaredGiven
pub mod DefaultGiven
pub mod DefaultClosures
pub mod ImportFirst
pub mod ModuleItemGiven
