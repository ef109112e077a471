pub mod TaggedTexts
