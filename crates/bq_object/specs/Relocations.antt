-- Which bytes of a function a linker changes, by the relocations of an object file (System V ABI, "Object Files": ELF64).
use Rattle.std.specs.Prelude.{◌≡◌, ◌≢◌, ℕ, ◌+◌, ◌*◌, ◌<◌, ◌≤◌, ◌-◌, ◌/◌, ◌==◌, if◌then◌else◌, List, length}
use Rattle.bq_object.specs.declared.fault.Filled.{Filled}
use Rattle.bq_object.specs.declared.fault.Filled.TheVariants as filling
use Rattle.bq_object.specs.declared.fault.ObjectFault.{ObjectFault}
use Rattle.bq_object.specs.declared.fault.ObjectFault.TheVariants.{Relocation, Cut}
use Rattle.bq_object.specs.declared.fault.Piece.TheVariants.{Relocations}
use Rattle.bq_object.specs.declared.section.Section.{Section}
use Rattle.bq_object.specs.declared.symbol.Symbol.{Symbol}
use Rattle.bq_object.specs.Numbers.{IsPart, number_at}
use Rattle.bq_object.specs.Sections.{AreBytesOf, IsSection}

-- the length of a relocation of a section of this kind; 0 if the kind has none
abbrev pub entry_size : ℕ → ℕ
entry_size kind = if kind == 4 then 24 else if kind == 9 then 16 else 0

-- the section has relocations of the section that has the function
abbrev pub IsOf : Section → Symbol → Type 0
IsOf section symbol = (entry_size section.kind ≢ 0) × (section.info ≡ symbol.section)

-- a relocation: the offset of what it changes, and its kind
pub record IsRelocation (entries : List ℕ) (size index at kind : ℕ) : Type 0 where
  pub entry : List ℕ
  pub entry_is : IsPart entries (size * index) size entry
  pub at_is : at ≡ number_at 8 entry 0
  pub kind_is : kind ≡ number_at 4 entry 8

-- what is at that offset of its section belongs to the function
abbrev pub HoldsOffset : Symbol → ℕ → Type 0
HoldsOffset symbol at = (symbol.at ≤ at) × (at < symbol.at + symbol.long)

-- no relocation of the section changes the function
abbrev pub IsSectionClear : List ℕ → Section → Symbol → Type 0
IsSectionClear file section symbol =
    IsOf section symbol → (entries : List ℕ) (index at kind : ℕ) → AreBytesOf file section entries
    → IsRelocation entries (entry_size section.kind) index at kind → HoldsOffset symbol at → ⊥

-- no relocation of any section does
abbrev pub AreClear : List ℕ → List ℕ → Symbol → Type 0
AreClear file headers symbol = (k : ℕ) (section : Section) → IsSection headers k section → IsSectionClear file section symbol

-- a relocation of kind 10 fills in the address of a function that is called
abbrev pub filled : ℕ → Filled
filled kind = if kind == 10 then filling.Function else filling.Data

-- one of the relocations changes the function at that slot, and this is what it fills in
pub record IsChanged (entries : List ℕ) (size : ℕ) (symbol : Symbol) (slot : ℕ) (what : Filled) : Type 0 where
  pub index : ℕ
  pub at : ℕ
  pub kind : ℕ
  pub here : IsRelocation entries size index at kind
  pub within : HoldsOffset symbol at
  pub slot_is : slot ≡ (at - symbol.at) / 8
  pub what_is : what ≡ filled kind

-- the fault is a relocation that changes the function
abbrev pub IsEntryFault : List ℕ → ℕ → Symbol → ObjectFault → Type 0
IsEntryFault entries size symbol (Relocation slot what) = IsChanged entries size symbol slot what
IsEntryFault entries size symbol fault = ⊥

-- what is wrong with the relocations of a section: they are not all in the file, or one of them changes the function
abbrev pub IsSectionFault : List ℕ → Section → Symbol → ObjectFault → Type 0
IsSectionFault file section symbol (Cut Relocations) = IsOf section symbol × (length file < section.at + section.long)
IsSectionFault file section symbol fault =
    IsOf section symbol × ((entries : List ℕ) × AreBytesOf file section entries × IsEntryFault entries (entry_size section.kind) symbol fault)

-- the fault is in a section of relocations of the object
pub record IsRelocationFault (file headers : List ℕ) (symbol : Symbol) (fault : ObjectFault) : Type 0 where
  pub index : ℕ
  pub section : Section
  pub here : IsSection headers index section
  pub wrong : IsSectionFault file section symbol fault
