-- Sections of an object file, by their headers (System V ABI, "Object Files": ELF64).
use Rattle.std.specs.Prelude.{◌≡◌, ◌≢◌, ℕ, ◌*◌, ◌<◌, List}
use Rattle.bq_object.specs.declared.section.Section.{Section}
use Rattle.bq_object.specs.Numbers.{IsPart, number_at}

-- what a section header says
abbrev pub section_of : List ℕ → Section
section_of header = record {
  name = number_at 4 header 0;
  kind = number_at 4 header 4;
  at = number_at 8 header 24;
  long = number_at 8 header 32;
  link = number_at 4 header 40;
  info = number_at 4 header 44;
}

-- the section of that number
pub record IsSection (headers : List ℕ) (index : ℕ) (section : Section) : Type 0 where
  pub header : List ℕ
  pub header_is : IsPart headers (index * 64) 64 header
  pub section_is : section ≡ section_of header

-- the first section of that kind
pub record IsFirstOf (kind : ℕ) (headers : List ℕ) (section : Section) : Type 0 where
  pub index : ℕ
  pub here : IsSection headers index section
  pub is : section.kind ≡ kind
  pub none : (k : ℕ) → k < index → (other : Section) → IsSection headers k other → other.kind ≢ kind

-- no section is of this kind
abbrev pub HasNone : ℕ → List ℕ → Type 0
HasNone kind headers = (k : ℕ) (other : Section) → IsSection headers k other → other.kind ≢ kind

-- the bytes of a section
abbrev pub AreBytesOf : List ℕ → Section → List ℕ → Type 0
AreBytesOf file section bytes = IsPart file section.at section.long bytes
