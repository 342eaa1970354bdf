-- What the policy of an object file is: the bytes of its function `policy` (System V ABI, "Object Files": ELF64, little-endian;
-- BPF is machine 247).
use Rattle.std.specs.Prelude.{◌≡◌, ℕ, ◌*◌, ◌≤◌, List, length, slice_index}
use Rattle.bq_object.specs.declared.fault.TheConstants.{MOST_SECTIONS}
use Rattle.bq_object.specs.declared.section.Section.{Section}
use Rattle.bq_object.specs.declared.symbol.Symbol.{Symbol}
use Rattle.bq_object.specs.Numbers.{IsPart, number_at}
use Rattle.bq_object.specs.Sections.{AreBytesOf, IsFirstOf, IsSection}
use Rattle.bq_object.specs.Symbols.{IsFirstPolicy}
use Rattle.bq_object.specs.Relocations.{AreClear}

-- a file that begins with 7f, E, L, F
pub record IsObject (file : List ℕ) : Type 0 where
  pub long : 4 ≤ length file
  pub first : slice_index file 0 ≡ 0x7f
  pub second : slice_index file 1 ≡ 0x45
  pub third : slice_index file 2 ≡ 0x4c
  pub fourth : slice_index file 3 ≡ 0x46

-- 64 bits, little-endian
abbrev pub IsClass : List ℕ → Type 0
IsClass file = (slice_index file 4 ≡ 2) × (slice_index file 5 ≡ 1)

-- the section headers of an object for BPF, 64 bytes each
pub record HasHeaders (file headers : List ℕ) : Type 0 where
  pub long : 64 ≤ length file
  pub class : IsClass file
  pub machine : number_at 2 file 18 ≡ 247
  pub size : number_at 2 file 58 ≡ 64
  pub few : number_at 2 file 60 ≤ MOST_SECTIONS
  pub headers_are : IsPart file (number_at 8 file 40) (64 * number_at 2 file 60) headers

-- the symbols of the first section that has some, and their names, in the section that it links to
pub record HasTables (file headers entries names : List ℕ) : Type 0 where
  pub table : Section
  pub first : IsFirstOf 2 headers table
  pub entries_are : AreBytesOf file table entries
  pub strings : Section
  pub linked : IsSection headers table.link strings
  pub names_are : AreBytesOf file strings names

-- the function is in its section, where its symbol says
pub record IsCode (file headers : List ℕ) (symbol : Symbol) (code : List ℕ) : Type 0 where
  pub section : Section
  pub here : IsSection headers symbol.section section
  pub bytes : List ℕ
  pub bytes_are : AreBytesOf file section bytes
  pub code_is : IsPart bytes symbol.at symbol.long code

-- the bytes are those of the function `policy`, and no relocation changes them
pub record IsFunction (file headers policy : List ℕ) : Type 0 where
  pub entries : List ℕ
  pub names : List ℕ
  pub tables : HasTables file headers entries names
  pub symbol : Symbol
  pub first : IsFirstPolicy entries names symbol
  pub clear : AreClear file headers symbol
  pub code : IsCode file headers symbol policy

-- the bytes are the object's policy
pub record IsPolicyOfObject (file policy : List ℕ) : Type 0 where
  pub headers : List ℕ
  pub has : HasHeaders file headers
  pub function : IsFunction file headers policy
