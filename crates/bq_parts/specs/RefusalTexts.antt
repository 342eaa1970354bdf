-- The texts of refusals.
use Rattle.std.specs.Prelude.{ℕ, List, [], ◌++◌, codes}
use Rattle.std.specs.Fmt.{decimal}
use Rattle.bq_parts.specs.declared.refusal.Refusal.{Refusal}
use Rattle.bq_parts.specs.declared.refusal.Refusal.TheVariants.{NoProcessor, NoTask, NotBlocked, TaskExists, EmptyMask, Nice, Slice, Idle, SameProcessor, InHand, NothingInHand, Older, NotDrawn, WrongHook, OutOfMemory}

-- the number and the name of a refusal
abbrev pub refusal_name : Refusal → List ℕ
refusal_name NoProcessor = codes "C1 NoProcessor"
refusal_name NoTask = codes "C2 NoTask"
refusal_name NotBlocked = codes "C3 NotBlocked"
refusal_name TaskExists = codes "C4 TaskExists"
refusal_name EmptyMask = codes "C5 EmptyMask"
refusal_name Nice = codes "C6 Nice"
refusal_name Slice = codes "C7 Slice"
refusal_name Idle = codes "C8 Idle"
refusal_name SameProcessor = codes "C9 SameProcessor"
refusal_name InHand = codes "C10 InHand"
refusal_name NothingInHand = codes "C11 NothingInHand"
refusal_name (Older newest) = codes "C12 Older "
refusal_name NotDrawn = codes "C13 NotDrawn"
refusal_name WrongHook = codes "C14 WrongHook"
refusal_name OutOfMemory = codes "C15 OutOfMemory"

-- the generation that a refusal names, if it names one
abbrev pub newest_text : Refusal → List ℕ
newest_text (Older newest) = decimal newest
newest_text refusal = []

-- the text of a refusal
abbrev pub refusal_text : Refusal → List ℕ
refusal_text refusal = refusal_name refusal ++ newest_text refusal
