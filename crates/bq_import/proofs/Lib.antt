-- A copy does what its program does: it has the same steps, runs and paths, and a copy of a copy is a copy
pub mod StepLemmas
pub mod CopyLemmas
pub mod RunLemmas
pub mod PathLemmas
pub mod ComposeLemmas
-- Numbers of slots: of an instruction, and of a run of instructions
pub mod RoomLemmas
pub mod LengthLemmas
-- A copy is written from its end: one instruction more, and a run of them, in front
pub mod SearchLemmas
pub mod BackwardLemmas
pub mod RunningLemmas
-- The search finds a forward order: its stack, what the copy may have in all, and how long it is at most
pub mod StackLemmas
pub mod BudgetLemmas
pub mod ForwardLemmas
-- What was written from its end, the other way round, is a program and a copy
pub mod TurningLemmas
pub mod OrderLemmas
pub mod ProgramLemmas
-- The copy of what control comes to has nothing else
pub mod KeepLemmas
pub mod ReachLemmas
-- Sections, and the text of what is imported
pub mod AddressLemmas
pub mod RefusalLemmas
pub mod NotedLemmas
