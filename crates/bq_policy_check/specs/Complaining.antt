-- Which options of `asm` are complained of.
use Rattle.std.specs.Prelude.{◌⊎◌, Option, Some, None}
use Rattle.bq_policy_file.specs.declared.form.ProgramForm.{ProgramForm}
use Rattle.bq_policy_file.specs.declared.options.Options.{Options}
use Rattle.bq_policy_file.specs.Forms.{AsksForForm, HasBadFormat, HasBadMaps}

-- there is no complaint only if the options ask for a form, and one only if they have bad maps or a bad format
abbrev pub ComplainsOfOptions : {S : Type 0} → Options → Option S → Type 0
ComplainsOfOptions o None = (form : ProgramForm) × AsksForForm o form
ComplainsOfOptions o (Some reported) = HasBadMaps o ⊎ HasBadFormat o
