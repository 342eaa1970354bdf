-- What a trace says: its words and lines are read back, and a replay of its text gets the same answers
pub mod PlainWordLemmas
pub mod NumberWordLemmas
pub mod HexWordLemmas
pub mod EventWordLemmas
pub mod LineLawLemmas
pub mod TextLemmas
pub mod ReplayLemmas
-- What the loop does: deeds, one after another, from the opening to the end
pub mod TasksOfKindLemmas
pub mod AllProcessorsLemmas
pub mod StreamLemmas
pub mod DriveLemmas
pub mod DeedLemmas
pub mod InstallInTurnLemmas
pub mod FromImagesLemmas
pub mod AdmitInTurnLemmas
pub mod DueInOrderLemmas
pub mod BookLemmas
pub mod WholeSimulationLemmas
-- The accounts agree with the world: it takes each event, and they agree after each thing that is met
pub mod AccountsReadLemmas
pub mod MirrorLemmas
pub mod EventTakenLemmas
pub mod WakeTakenLemmas
pub mod AdmissionTakenLemmas
pub mod MeetAgreeLemmas
-- So calls fail only if memory runs out
pub mod EventFaultLemmas
pub mod CallFaultLemmas
-- Nothing is past: what comes next is not missed, and what is met leaves nothing past
pub mod NothingMissedLemmas
pub mod StaysOnTimeLemmas
pub mod MeetOnTimeLemmas
-- What is kept from the opening on: agreement, each task's action, generations of policies, and all of this together
pub mod SimulationAgreeLemmas
pub mod SoundWorkloadLemmas
pub mod StandsAtActionLemmas
pub mod WorldGenerationLemmas
pub mod DriverGenerationLemmas
pub mod AllIsKeptLemmas
-- A simulation goes well from its opening to its last ticks: no call of its roster goes astray
pub mod GoesWellLemmas
pub mod OpensWellLemmas
pub mod NoStraySwitchLemmas
pub mod NoStrayCallLemmas
pub mod ComesDueLemmas
pub mod PhaseEndLemmas
pub mod NextActionLemmas
pub mod FallsAsleepLemmas
pub mod WakeAimLemmas
pub mod BeatAndLookLemmas
pub mod LastTicksLemmas
-- The loop ends: fewer things come than are counted, at one instant and until the end
pub mod StepsAheadLemmas
pub mod SumOverAllLemmas
pub mod StepsLeftLemmas
pub mod ActionLeftLemmas
pub mod MeetLeftLemmas
pub mod FewAtOnceLemmas
pub mod FewUntilEndLemmas
