-- The notes on the marks of a text that `asm` leaves.
use Rattle.std.specs.Prelude.{◌≡◌, ◌≢◌, ℕ, Bool, List, [], ◌++◌, ◌&&◌, ◌⊎◌, false, true, if◌then◌else◌, codes, is_some, length, nat_lt, not}
use Rattle.bq_hooks.specs.declared.hook.Version.{Version}
use Rattle.bq_hooks.specs.declared.hook.Version.TheVariants.{First, Second}
use Rattle.bq_policy_file.specs.declared.fault.PolicyFault.{PolicyFault}
use Rattle.bq_policy_file.specs.declared.fault.PolicyFault.TheVariants as fault
use Rattle.bq_policy_file.specs.declared.head.Head.{Head}
use Rattle.bq_policy_file.specs.declared.kind.FileKind.TheVariants.{Text}
use Rattle.bq_policy_file.specs.declared.options.Options.{Options}
use Rattle.bq_policy_file.specs.declared.policy_source.PolicySource.{PolicySource}
use Rattle.bq_policy_file.specs.Files.{IsPolicy, IsPolicyFault, kind_of}
use Rattle.bq_policy_check.specs.Disagreeing.{GivesImage}

-- the text says maps, and the options none
abbrev pub leaves_maps : Head → PolicySource → Bool
leaves_maps h p = not (is_some h.maps) && nat_lt 0 (length p.form.shapes.items)

-- a version is the second
abbrev pub is_second : Version → Bool
is_second First = false
is_second Second = true

-- the text says the second version, and the options none
abbrev pub leaves_format : Head → PolicySource → Bool
leaves_format h p = not (is_some h.format) && is_second p.form.version

-- the lines on the maps and on the version that the options leave out
abbrev pub left_out_lines : Head → PolicySource → List ℕ
left_out_lines h p =
    (if leaves_maps h p then codes "the text says maps, and the image has none: asm takes them only from --maps; check --image OUT writes the image with them\n" else [])
    ++ (if leaves_format h p then codes "the text says format 2, and the image has version 1: asm takes it only from --format; check --image OUT writes version 2\n" else [])

-- the note on the line that is no mark, if that is the fault
abbrev pub NotesHead : PolicyFault → List ℕ → Type 0
NotesHead (fault.Head line cause) note = (reason : List ℕ) × (note ≡ reason ++ codes "; asm goes by its options alone\n")
NotesHead other note = note ≡ []

-- the note on a text: on what the words leave out, if the text is a policy under them; otherwise on the first line that is no
-- mark. Other bytes have no marks
abbrev pub IsNoteBeside : List ℕ → Head → List ℕ → Type 0
IsNoteBeside bytes h note =
    ((kind_of bytes ≢ Text) × (note ≡ []))
    ⊎ (((p : PolicySource) × IsPolicy bytes h p × (note ≡ left_out_lines h p)) ⊎ ((named : PolicyFault) × IsPolicyFault bytes h named × (named ≢ fault.OutOfMemory) × NotesHead named note))

-- options that ask for no image, or name no maps, leave nothing
abbrev pub IsAsmNote : Options → List ℕ → List ℕ → Type 0
IsAsmNote o bytes note = (((h : Head) → ¬ GivesImage o h) × (note ≡ [])) ⊎ ((h : Head) × GivesImage o h × IsNoteBeside bytes h note)
