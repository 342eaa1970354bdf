-- Why an object has no policy that can be read.
use Rattle.std.specs.Prelude.{◌≡◌, ◌≢◌, ℕ, ◌+◌, ◌*◌, ◌<◌, ◌≤◌, ◌⊎◌, List, length}
use Rattle.bq_object.specs.declared.fault.ObjectFault.{ObjectFault}
use Rattle.bq_object.specs.declared.fault.ObjectFault.TheVariants.{Class, Machine, HeaderSize, Sections, NoPolicy, Cut}
use Rattle.bq_object.specs.declared.fault.Piece.TheVariants as piece
use Rattle.bq_object.specs.declared.fault.TheConstants.{MOST_SECTIONS}
use Rattle.bq_object.specs.declared.section.Section.{Section}
use Rattle.bq_object.specs.declared.symbol.Symbol.{Symbol}
use Rattle.bq_object.specs.Numbers.{number_at}
use Rattle.bq_object.specs.Sections.{HasNone, IsFirstOf, IsSection}
use Rattle.bq_object.specs.Symbols.{HasNoPolicy, IsFirstPolicy}
use Rattle.bq_object.specs.Relocations.{IsRelocationFault}
use Rattle.bq_object.specs.Objects.{HasHeaders, HasTables, IsClass}

-- what is wrong with the head of a file: the first of these that holds
abbrev pub IsHeaderFault : List ℕ → ObjectFault → Type 0
IsHeaderFault file (Cut piece.Header) = length file < 64
IsHeaderFault file Class = (64 ≤ length file) × (IsClass file → ⊥)
IsHeaderFault file Machine = (64 ≤ length file) × IsClass file × (number_at 2 file 18 ≢ 247)
IsHeaderFault file HeaderSize = (64 ≤ length file) × IsClass file × (number_at 2 file 18 ≡ 247) × (number_at 2 file 58 ≢ 64)
IsHeaderFault file Sections =
    (64 ≤ length file) × IsClass file × (number_at 2 file 18 ≡ 247) × (number_at 2 file 58 ≡ 64) × (MOST_SECTIONS < number_at 2 file 60)
IsHeaderFault file (Cut piece.Headers) =
    (64 ≤ length file) × IsClass file × (number_at 2 file 18 ≡ 247) × (number_at 2 file 58 ≡ 64) × (number_at 2 file 60 ≤ MOST_SECTIONS)
    × (length file < number_at 8 file 40 + 64 * number_at 2 file 60)
IsHeaderFault file fault = ⊥

-- the bytes of a section go on past the end of the file
abbrev pub IsSectionCut : List ℕ → Section → Type 0
IsSectionCut file section = length file < section.at + section.long

-- there is no section of that number, or its bytes go on past the end of the file
abbrev pub IsLost : List ℕ → List ℕ → ℕ → Type 0
IsLost file headers index = (length headers < index * 64 + 64) ⊎ ((section : Section) × IsSection headers index section × IsSectionCut file section)

-- what is wrong with symbols and names
abbrev pub IsTableFault : List ℕ → List ℕ → ObjectFault → Type 0
IsTableFault file headers NoPolicy = HasNone 2 headers
IsTableFault file headers (Cut piece.Symbols) = (table : Section) × IsFirstOf 2 headers table × IsSectionCut file table
IsTableFault file headers (Cut piece.Names) = (table : Section) × IsFirstOf 2 headers table × IsLost file headers table.link
IsTableFault file headers fault = ⊥

-- the function is not in its section where its symbol says
abbrev pub HasNoCode : List ℕ → List ℕ → Symbol → Type 0
HasNoCode file headers symbol =
    IsLost file headers symbol.section
    ⊎ ((section : Section) × IsSection headers symbol.section section × (section.long < symbol.at + symbol.long))

-- what is wrong with the function
abbrev pub IsCodeFault : List ℕ → List ℕ → Symbol → ObjectFault → Type 0
IsCodeFault file headers symbol (Cut piece.Policy) = HasNoCode file headers symbol
IsCodeFault file headers symbol fault = IsRelocationFault file headers symbol fault

-- there is no function `policy`, or this is wrong with it
abbrev pub IsFunctionFault : List ℕ → List ℕ → List ℕ → List ℕ → ObjectFault → Type 0
IsFunctionFault file headers entries names NoPolicy = HasNoPolicy entries names
IsFunctionFault file headers entries names fault = (symbol : Symbol) × IsFirstPolicy entries names symbol × IsCodeFault file headers symbol fault

-- what is wrong with an object: with its head; otherwise with its symbols; otherwise with its function
abbrev pub IsObjectFault : List ℕ → ObjectFault → Type 0
IsObjectFault file fault =
    IsHeaderFault file fault
    ⊎ ((headers : List ℕ) × HasHeaders file headers × (IsTableFault file headers fault
    ⊎ ((entries : List ℕ) × (names : List ℕ) × HasTables file headers entries names × IsFunctionFault file headers entries names fault)))
