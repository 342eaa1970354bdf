-- An image that comes in pieces: what a reader holds, and which bytes were fed to it.
use Rattle.std.specs.Prelude.{◌≡◌, ℕ, ◌<◌, List, [], ◌++◌, length, Option, Some, None, ◌⊎◌}
use Rattle.bq_load.specs.declared.fault.LoadFault.{LoadFault}
use Rattle.bq_load.specs.declared.fault.LoadFault.TheVariants as fault
use Rattle.bq_load.specs.Layout.{Header, IsHeader, header_bytes}
use Rattle.bq_load.specs.Faults.{IsLoadFault}
use Rattle.bq_insn.specs.declared.TheConstants.{SLOTS}

-- the state of a reader: the bytes that it holds, how many bytes came after them, and the fault that it has answered
pub record Fed : Type 0 where
  pub held : List ℕ
  pub past : ℕ
  pub failed : Option LoadFault

-- a reader to which no byte has come
abbrev pub unfed : Fed
unfed = record { held = []; past = 0; failed = None }

-- faults that no further bytes take away: a bad field, and bytes after the end
abbrev pub IsFinal : LoadFault → Type 0
IsFinal fault.Magic = Unit {0}
IsFinal fault.Version = Unit {0}
IsFinal fault.Hook = Unit {0}
IsFinal fault.Shape = Unit {0}
IsFinal fault.Rest = Unit {0}
IsFinal _ = ⊥

-- the bytes have a fault that no further bytes take away
abbrev pub HasFailed : List ℕ → LoadFault → Type 0
HasFailed bytes named = IsFinal named × IsLoadFault bytes named

-- the bytes begin with a header whose program has too many slots, so only the length of the program matters
pub record HasTooManySlots (held : List ℕ) : Type 0 where
  pub header : Header
  pub part : List ℕ
  pub good : IsHeader header
  pub over : SLOTS < header.slots
  pub held_is : held ≡ header_bytes header ++ part

-- the bytes are the held bytes, and after them as many more as were counted; bytes are counted only if the program is too long
pub record Holds (held : List ℕ) (past : ℕ) (bytes : List ℕ) : Type 0 where
  pub rest : List ℕ
  pub bytes_are : bytes ≡ held ++ rest
  pub counted : length rest ≡ past
  pub only : (past ≡ 0) ⊎ HasTooManySlots held

-- the fields of a reader fit these bytes: it holds them, or they have the fault that it has answered
abbrev pub stands : List ℕ → ℕ → Option LoadFault → List ℕ → Type 0
stands held past None bytes = Holds held past bytes
stands held past (Some named) bytes = HasFailed bytes named

-- a reader stands for these bytes, all that were fed: it holds them, or they have the fault that it has answered
abbrev pub StandsFor : Fed → List ℕ → Type 0
StandsFor fed bytes = stands fed.held fed.past fed.failed bytes

-- if the old reader stands for some bytes, the new one stands for those bytes followed by the piece
abbrev pub FeedsPiece : Fed → List ℕ → Fed → Type 0
FeedsPiece old piece new = (bytes : List ℕ) → StandsFor old bytes → StandsFor new (bytes ++ piece)
