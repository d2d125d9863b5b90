-- Modules: imports and exports, and the items of a module are the only ones at their place.
pub mod Exports
pub mod ExportsOnce
pub mod Imports
pub mod ModuleItems
pub mod ModuleLists
pub mod ModuleWords
pub mod SpecifierLists
pub mod Specifiers
