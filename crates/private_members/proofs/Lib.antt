mod PublicScripts
mod Sets
mod Walks
