-- In what form `asm` writes a program: what its options ask for, and by what they are refused.
use Rattle.std.specs.Prelude.{◌≡◌, ℕ, List, [], Option, Some, None, ◌⊎◌, option_map, unwrap_or, IsSome, codes}
use Rattle.std.specs.String.{string_bytes}
use Rattle.bq_insn.specs.declared.Insn.{Insn}
use Rattle.bq_insn.specs.Spelling.{spelling}
use Rattle.bq_bpf.specs.declared.shape.MapShape.{MapShape}
use Rattle.bq_hooks.specs.declared.hook.Version.TheVariants.{First}
use Rattle.bq_load.specs.Layout.{IsImage}
use Rattle.bq_policy_file.specs.declared.options.Options.{Options}
use Rattle.bq_policy_file.specs.declared.options.OptionsFault.{OptionsFault}
use Rattle.bq_policy_file.specs.declared.options.OptionsFault.TheVariants.{Maps, Format, OutOfMemory}
use Rattle.bq_policy_file.specs.declared.form.ProgramForm.{ProgramForm}
use Rattle.bq_policy_file.specs.declared.form.ProgramForm.TheVariants.{Program, Image}
use Rattle.bq_words.specs.Refused.{refused_line}
use Rattle.bq_policy_file.specs.ShapesText.{NamesShapes, NamesNoShapes}

-- the text of an option
abbrev pub maps_option_text : Options → Option (List ℕ)
maps_option_text o = option_map (λ text. string_bytes text) o.maps

-- the shapes that an option names; without it there are none
abbrev pub HasShapes : Option (List ℕ) → List MapShape → Type 0
HasShapes None shapes = shapes ≡ []
HasShapes (Some text) shapes = NamesShapes text shapes

-- without a hook only the program, and then no other option is there; with one an image, of version 1 if none is named
abbrev pub AsksForForm : Options → ProgramForm → Type 0
AsksForForm o Program = (o.hook ≡ None) × (maps_option_text o ≡ None) × (o.format ≡ None)
AsksForForm o (Image i) = (o.hook ≡ Some i.hook) × HasShapes (maps_option_text o) i.shapes.items × (i.version ≡ unwrap_or o.format First)

-- maps are named without a hook, or by a text that names none
abbrev pub HasBadMaps : Options → Type 0
HasBadMaps o = (text : List ℕ) × (maps_option_text o ≡ Some text) × ((o.hook ≡ None) ⊎ NamesNoShapes text)

-- a version is named without a hook, and no maps are
abbrev pub HasBadFormat : Options → Type 0
HasBadFormat o = (o.hook ≡ None) × (maps_option_text o ≡ None) × IsSome o.format

-- if memory runs out, nothing is said of the options
abbrev pub HasOptionsFault : Options → OptionsFault → Type 0
HasOptionsFault o Maps = HasBadMaps o
HasOptionsFault o Format = HasBadFormat o
HasOptionsFault o OutOfMemory = Unit {0}

-- the line that refuses the options; of two faults only the maps
abbrev pub RefusesOptions : Options → List ℕ → Type 0
RefusesOptions o written = (HasBadMaps o × (written ≡ refused_line (codes "maps"))) ⊎ (HasBadFormat o × (written ≡ refused_line (codes "format")))

-- the bytes are those of the program, in this form
abbrev pub SpellsForm : ProgramForm → List Insn → List ℕ → Type 0
SpellsForm Program insns bytes = bytes ≡ spelling insns
SpellsForm (Image i) insns bytes = IsImage bytes i.version i.hook i.shapes.items (spelling insns)
