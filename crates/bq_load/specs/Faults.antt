-- The first fault of bytes that are no image, from left to right.
use Rattle.std.specs.Prelude.{◌≡◌, ℕ, ◌*◌, ◌<◌, List, ◌++◌, length}
use Rattle.bq_insn.specs.declared.fault.DecodeCause.{DecodeCause}
use Rattle.bq_insn.specs.declared.fault.DecodeCause.TheVariants.{Length}
use Rattle.bq_insn.specs.declared.fault.DecodeFault.TheVariants.{At}
use Rattle.bq_insn.specs.Faults.{IsDecodeFault as IsProgramFault}
use Rattle.bq_load.specs.declared.fault.LoadFault.{LoadFault}
use Rattle.bq_load.specs.declared.fault.LoadFault.TheVariants as fault
use Rattle.bq_load.specs.Layout.{Header, IsHeader, IsFramed, header_bytes}
use Rattle.bq_load.specs.Fields.{Front, AreGoodFields, front_bytes, next_width, IsBadNext}

-- the bytes begin with good fields, followed by a whole field that is bad
pub record HasBadField (bytes : List ℕ) (named : LoadFault) : Type 0 where
  pub front : Front
  pub field : List ℕ
  pub rest : List ℕ
  pub good : AreGoodFields front
  pub bytes_are : bytes ≡ front_bytes front ++ (field ++ rest)
  pub whole : length field ≡ next_width front
  pub bad : IsBadNext front field named

-- the bytes are good fields, followed by less than the next field has
pub record IsCut (bytes : List ℕ) : Type 0 where
  pub front : Front
  pub part : List ℕ
  pub good : AreGoodFields front
  pub bytes_are : bytes ≡ front_bytes front ++ part
  pub short : length part < next_width front

-- the bytes have a whole header and its whole program, and more bytes after it
pub record HasMore (bytes : List ℕ) : Type 0 where
  pub header : Header
  pub rest : List ℕ
  pub good : IsHeader header
  pub bytes_are : bytes ≡ header_bytes header ++ rest
  pub more : 8 * header.slots < length rest

-- header and program are whole, but the program has this fault at this slot
pub record HasFaultyProgram (bytes : List ℕ) (slot : ℕ) (cause : DecodeCause) : Type 0 where
  pub header : Header
  pub program : List ℕ
  pub framed : IsFramed bytes header program
  pub faulty : IsProgramFault program (At slot cause)

-- the first fault of bytes: they are cut; bytes are left after the program; the program has a wrong length; or a field
-- is bad. A bad field is Magic, Version, Hook or Shape, because IsBadNext has no others
abbrev pub IsLoadFault : List ℕ → LoadFault → Type 0
IsLoadFault bytes fault.Cut = IsCut bytes
IsLoadFault bytes fault.Rest = HasMore bytes
IsLoadFault bytes (fault.Decode slot Length) = HasFaultyProgram bytes slot Length
IsLoadFault bytes named = HasBadField bytes named
