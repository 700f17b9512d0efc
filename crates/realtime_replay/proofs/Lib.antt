pub mod Nodes
pub mod SaidTexts
pub mod Tells
pub mod WordLists
