-- What the verdict says of the policy, and of the place in its program
pub mod VerdictLemmas
pub mod SlotLemmas
pub mod ExplainLemmas
-- What made a register, and what a policy uses of the things that a keeper may limit
pub mod MakerLemmas
pub mod MeasureLemmas
-- The text of a state holds of each state that it contains
pub mod UnknownLemmas
pub mod StateTextLemmas
pub mod RunLemmas
-- Texts by their parts and lines
pub mod BeginningLemmas
pub mod LineLemmas
pub mod RefusalTextLemmas
