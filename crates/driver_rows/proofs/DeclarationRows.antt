pub mod DeclarationRules
pub mod Declared
