-- finite ordered forests
pub mod Forest
-- colours as texts, and the treatment of white space
pub mod Colours
pub mod WhiteSpace
-- texts that need no allocation while they are short
pub mod SmallText
-- errors: messages, numbers, and their relation to definitions
pub mod Outcome
-- laws of these definitions
pub mod laws
