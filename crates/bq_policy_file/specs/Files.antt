-- What a policy's file is, and why a file is no policy.
use Rattle.std.specs.Prelude.{◌≡◌, ◌≢◌, ℕ, ◌+◌, ◌&&◌, nat_le, Bool, List, [], ◌∷◌, MatchBool, Option, Some, None, option_map, unwrap_or, if◌then◌else◌, nat_eq}
use Rattle.std.specs.List.{starts_with}
use Rattle.std.proofs.Common.{Global}
use Rattle.std.specs.declared.vec.Vec.{Vec}
use Rattle.std.specs.Str.{IsUtf8}
use Rattle.std.specs.Str.Lines.{lines}
use Rattle.bq_insn.specs.declared.Insn.{Insn}
use Rattle.bq_insn.specs.declared.fault.DecodeFault.TheVariants as decode
use Rattle.bq_insn.specs.Faults.{IsDecodeFault as IsProgramFault}
use Rattle.bq_insn.specs.Spelling.{spelling}
use Rattle.bq_bpf.specs.declared.shape.MapShape.{MapShape}
use Rattle.bq_hooks.specs.declared.hook.Hook.{Hook}
use Rattle.bq_hooks.specs.declared.hook.Version.{Version}
use Rattle.bq_hooks.specs.declared.hook.Version.TheVariants.{First}
use Rattle.bq_asm.specs.Assembly.{Assembles}
use Rattle.bq_asm.specs.Faults.{FaultyLines}
use Rattle.bq_asm.specs.Lines.{is_instruction, parsed_line, lines_of}
use Rattle.bq_load.specs.Answers.{HasProgram}
use Rattle.bq_load.specs.Faults.{IsLoadFault as HasFault}
use Rattle.bq_load.specs.Layout.{IsImage, magic}
use Rattle.bq_policy_file.specs.HexText.{IsNoHex, SpellsBytes, is_hex_space}
use Rattle.bq_policy_file.specs.declared.fault.PolicyFault.{PolicyFault}
use Rattle.bq_policy_file.specs.declared.fault.PolicyFault.TheVariants as fault
use Rattle.bq_policy_file.specs.declared.head.Head.{Head}
use Rattle.bq_policy_file.specs.declared.kind.FileKind.{FileKind}
use Rattle.bq_policy_file.specs.declared.kind.FileKind.TheVariants as kind
use Rattle.bq_policy_file.specs.declared.mark.Key.{Key}
use Rattle.bq_policy_file.specs.declared.mark.Key.TheVariants as key
use Rattle.bq_policy_file.specs.declared.policy_source.PolicySource.{PolicySource}
use Rattle.bq_policy_file.specs.Heads.{IsBadAt, StatesHead}

-- the first byte that is no blank
abbrev pub first_dark : List ℕ → Option ℕ
first_dark [] = None
first_dark (b ∷ bs) = if is_hex_space b then first_dark bs else Some b

-- hex begins with a digit, as no line of an assembler text does
abbrev pub kind_at : Option ℕ → FileKind
kind_at (Some b) = if nat_le 48 b && nat_le b 57 then kind.Hex else kind.Text
kind_at None = kind.Text

-- an image begins with its letters; else the first byte that is no blank tells
abbrev pub kind_of : List ℕ → FileKind
kind_of bytes = if starts_with nat_eq bytes magic then kind.Image else kind_at (first_dark bytes)

-- the one, or else the other
abbrev pub either : {A : Type 0} → Option A → Option A → Option A
either (Some a) b = Some a
either None b = b

-- if both values are there, they are equal
abbrev pub Agree : {A : Type 0} → Option A → Option A → Type 0
Agree (Some a) (Some b) = a ≡ b
Agree _ _ = Unit {0}

-- both are there, and differ
abbrev pub Differ : {A : Type 0} → Option A → Option A → Type 0
Differ (Some a) (Some b) = a ≢ b
Differ _ _ = ⊥

-- the answer says whether they differ
abbrev pub ReportsDifference : {A : Type 0} → Option A → Option A → Bool → Type 0
ReportsDifference a b differs = MatchBool differs (Differ a b) (Agree a b)

-- the shapes that some maps have, if maps are named
abbrev pub shapes_in : Option (Vec MapShape Global) → Option (List MapShape)
shapes_in maps = option_map (λ shapes. shapes.items) maps

-- the shapes of a head's maps, if the head names maps
abbrev pub shapes_in_head : Head → Option (List MapShape)
shapes_in_head h = shapes_in h.maps

-- what was asked for agrees with what the file says
pub record AgreesWithHead (given : Head) (hook : Option Hook) (maps : Option (List MapShape)) (format : Option Version) : Type 0 where
  pub hooks : Agree given.hook hook
  pub shapes : Agree (shapes_in_head given) maps
  pub formats : Agree given.format format

-- what is given differs from what the file says in this key, and in none before it: the hook, the maps and the format, in this order
abbrev pub DiffersIn : Key → Head → Option Hook → Option (List MapShape) → Option Version → Type 0
DiffersIn key.Hook given hook maps format = Differ given.hook hook
DiffersIn key.Maps given hook maps format = Agree given.hook hook × Differ (shapes_in_head given) maps
DiffersIn key.Format given hook maps format = Agree given.hook hook × Agree (shapes_in_head given) maps × Differ given.format format

-- nothing differs, and neither names the hook
abbrev pub NamesNoHook : Head → Head → Type 0
NamesNoHook given stated = AgreesWithHead given stated.hook (shapes_in_head stated) stated.format × (given.hook ≡ None) × (stated.hook ≡ None)

-- together they name this hook, these maps and this version; without a word of them there are no maps, and the version is 1
pub record CombineTo (given stated : Head) (hook : Hook) (shapes : List MapShape) (version : Version) : Type 0 where
  pub agrees : AgreesWithHead given stated.hook (shapes_in_head stated) stated.format
  pub hook_is : either given.hook stated.hook ≡ Some hook
  pub shapes_are : shapes ≡ unwrap_or (either (shapes_in_head given) (shapes_in_head stated)) []
  pub version_is : version ≡ unwrap_or (either given.format stated.format) First

-- the numbers of the lines that have an instruction; the first line has this number
abbrev pub instruction_lines : ℕ → List (List ℕ) → List ℕ
instruction_lines number [] = []
instruction_lines number (line ∷ rest) =
    if is_instruction (parsed_line line) then number ∷ instruction_lines (number + 1) rest else instruction_lines (number + 1) rest

-- an image, and what was asked for agrees with it
pub record IsOfImage (bytes : List ℕ) (given : Head) (p : PolicySource) : Type 0 where
  pub image : IsImage bytes p.form.version p.form.hook p.form.shapes.items (spelling p.insns.items)
  pub agrees : AgreesWithHead given (Some p.form.hook) (Some p.form.shapes.items) (Some p.form.version)
  pub lines : p.lines.items ≡ []

-- the policy of a text: the program to which it assembles, under what its marks and the given head say together
pub record IsOfText (bytes : List ℕ) (given : Head) (p : PolicySource) : Type 0 where
  pub text : IsUtf8 bytes
  pub stated : Head
  pub head : StatesHead (lines bytes) stated
  pub combined : CombineTo given stated p.form.hook p.form.shapes.items p.form.version
  pub assembles : Assembles bytes p.insns.items
  pub lines : p.lines.items ≡ instruction_lines 1 (lines bytes)

-- the policy of a file of this kind
abbrev pub IsPolicyOfKind : FileKind → List ℕ → Head → PolicySource → Type 0
IsPolicyOfKind kind.Image bytes given p = IsOfImage bytes given p
IsPolicyOfKind kind.Hex bytes given p = (image : List ℕ) × SpellsBytes bytes image × IsOfImage image given p
IsPolicyOfKind kind.Text bytes given p = IsOfText bytes given p

-- the file is this policy
abbrev pub IsPolicy : List ℕ → Head → PolicySource → Type 0
IsPolicy bytes given p = IsPolicyOfKind (kind_of bytes) bytes given p

-- what is wrong with an image: the first fault of its bytes, or of its program, or what differs; if memory runs out, nothing is
-- said of it
abbrev pub IsImageFault : List ℕ → Head → PolicyFault → Type 0
IsImageFault bytes given (fault.Image named) = HasFault bytes named
IsImageFault bytes given (fault.Program slot cause) =
    (version : Version) × (hook : Hook) × (shapes : List MapShape) × (program : List ℕ) × IsImage bytes version hook shapes program × IsProgramFault program (decode.At slot cause)
IsImageFault bytes given (fault.Disagrees key) =
    (insns : List Insn) × (stated : HasProgram bytes insns) × DiffersIn key given (Some stated.hook) (Some stated.shapes) (Some stated.version)
IsImageFault bytes given fault.OutOfMemory = Unit {0}
IsImageFault bytes given other = ⊥

-- the bytes are a text, whose marks say this head
pub record HasHead (bytes : List ℕ) (stated : Head) : Type 0 where
  pub text : IsUtf8 bytes
  pub states : StatesHead (lines bytes) stated

-- a text has a head, and assembles to a program
pub record IsWholeText (bytes : List ℕ) (stated : Head) : Type 0 where
  pub head : HasHead bytes stated
  pub insns : List Insn
  pub assembles : Assembles bytes insns

-- what is wrong with a text, the first of these: the assembler refuses it, a mark is bad, its program has a fault, what is given
-- differs, or no hook is named
abbrev pub IsTextFault : List ℕ → Head → PolicyFault → Type 0
IsTextFault bytes given fault.Text = ¬ (IsUtf8 bytes)
IsTextFault bytes given (fault.Head line cause) = IsUtf8 bytes × IsBadAt (lines bytes) line cause
IsTextFault bytes given (fault.Assembly line cause) = (stated : Head) × HasHead bytes stated × FaultyLines (lines_of bytes) line cause
IsTextFault bytes given (fault.Disagrees key) = (stated : Head) × IsWholeText bytes stated × DiffersIn key given stated.hook (shapes_in_head stated) stated.format
IsTextFault bytes given fault.NoHook = (stated : Head) × IsWholeText bytes stated × NamesNoHook given stated
IsTextFault bytes given fault.OutOfMemory = Unit {0}
IsTextFault bytes given other = ⊥

-- why a text of hex is no policy: it is no hex, or its bytes are no image of a policy
abbrev pub IsHexFault : List ℕ → Head → PolicyFault → Type 0
IsHexFault bytes given fault.Hex = IsNoHex bytes
IsHexFault bytes given fault.OutOfMemory = Unit {0}
IsHexFault bytes given other = (image : List ℕ) × SpellsBytes bytes image × IsImageFault image given other

-- why a file of this kind is no policy
abbrev pub IsFaultOfKind : FileKind → List ℕ → Head → PolicyFault → Type 0
IsFaultOfKind kind.Image bytes given named = IsImageFault bytes given named
IsFaultOfKind kind.Hex bytes given named = IsHexFault bytes given named
IsFaultOfKind kind.Text bytes given named = IsTextFault bytes given named

-- why the file is no policy
abbrev pub IsPolicyFault : List ℕ → Head → PolicyFault → Type 0
IsPolicyFault bytes given named = IsFaultOfKind (kind_of bytes) bytes given named
