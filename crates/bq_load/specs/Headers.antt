-- What a header of the code says, and which bytes have it.
use Rattle.std.specs.Prelude.{◌≡◌, ℕ, ◌≤◌, List, ◌++◌}
use Rattle.bq_bpf.specs.declared.shape.MapShape.{MapShape}
use Rattle.bq_load.specs.declared.header.Header.{Header as Read}
use Rattle.bq_load.specs.Layout.{shapes_bytes, Header, header_bytes, IsHeader, IsFramed}
use Rattle.bq_load.specs.Reading.{Spelled}
use Rattle.bq_insn.specs.declared.TheConstants.{SLOTS}

-- a header of the code as the specification has it
abbrev pub spelled_of : Read → Spelled
spelled_of h = record { version = h.version; hook = h.hook; shapes = h.shapes.now; slots = h.slots }

-- the header with these shapes in place of the bytes that spell shapes
abbrev pub with_shapes : Spelled → List MapShape → Header
with_shapes s shapes = record { version = s.version; hook = s.hook; shapes = shapes; slots = s.slots }

-- the bytes are this header, followed by the rest
pub record HasHeader (bytes : List ℕ) (s : Spelled) (rest : List ℕ) : Type 0 where
  pub shapes : List MapShape
  pub shapes_are : s.shapes ≡ shapes_bytes shapes
  pub good : IsHeader (with_shapes s shapes)
  pub bytes_are : bytes ≡ header_bytes (with_shapes s shapes) ++ rest

-- the bytes are a header and its program
pub record Frames (bytes : List ℕ) (s : Spelled) (program : List ℕ) : Type 0 where
  pub shapes : List MapShape
  pub shapes_are : s.shapes ≡ shapes_bytes shapes
  pub framed : IsFramed bytes (with_shapes s shapes) program

-- the bytes spell shapes
abbrev pub AreShapes : List ℕ → Type 0
AreShapes bytes = (shapes : List MapShape) × (bytes ≡ shapes_bytes shapes)

-- the bytes are a header and its program, of 1 to `SLOTS` slots
pub record HasParts (bytes : List ℕ) (s : Spelled) (program : List ℕ) : Type 0 where
  pub frames : Frames bytes s program
  pub some : 1 ≤ s.slots
  pub most : s.slots ≤ SLOTS
