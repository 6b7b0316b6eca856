pub mod LabelLookup
pub mod EachLine
pub mod PassCounts
pub mod LabelSymbols
pub mod ImageLimits
pub mod ListText
pub mod Standing
pub mod ListAgain
