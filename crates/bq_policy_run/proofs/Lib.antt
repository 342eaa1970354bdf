-- Fields by name: the field of a name holds what the name says
mod FieldLemmas
mod PieceLemmas
mod FieldTableLemmas
mod FieldsLawLemmas
-- Words that name inputs: each makes its step in turn, or it is refused
pub mod InTurnLemmas
pub mod RefusalLemmas
mod NamingLemmas
-- Runs of an accepted policy, one after another, and what is shown of them
mod AcceptedLemmas
mod OftenLemmas
mod RunLemmas
mod ChangeLemmas
mod TraceLemmas
-- The word on an answer: what a context permits is what the rule permits
mod ShownLemmas
mod MovableIdLemmas
mod PlaceLawLemmas
mod PullLawLemmas
mod JudgeLemmas
