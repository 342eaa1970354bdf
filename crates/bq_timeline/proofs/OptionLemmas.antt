-- Options that do not apply to the form of the words.
use Rattle.std.proofs.Common.{◌≡◌, Some}
use Rattle.bq_timeline.specs.Settings.{IsNoSettings, IsUnusedBy, form_asked}
use Rattle.bq_timeline.specs.declared.form_names.FormName.{FormName}
use Rattle.bq_timeline.specs.declared.settings.SettingsFault.{SettingsFault}
use Rattle.bq_timeline.specs.declared.settings.SettingsFault.TheVariants as fault
use Rattle.bq_timeline.specs.declared.settings.ShownWords.{ShownWords}

-- an option that does not apply to the form leaves the words without settings
pub unused_by_form : (w : ShownWords) (form : FormName) (why : SettingsFault) → form_asked w ≡ Some form → IsUnusedBy form w why → IsNoSettings w why
unused_by_form w form fault.Form asked h = absurd h
unused_by_form w form fault.From asked h = absurd h
unused_by_form w form fault.FromTooGreat asked h = absurd h
unused_by_form w form fault.To asked h = absurd h
unused_by_form w form fault.ToTooGreat asked h = absurd h
unused_by_form w form fault.Backwards asked h = absurd h
unused_by_form w form fault.Processors asked h = absurd h
unused_by_form w form fault.Tasks asked h = absurd h
unused_by_form w form fault.Width asked h = absurd h
unused_by_form w form fault.Theme asked h = absurd h
unused_by_form w form fault.OutOfMemory asked h = absurd h
unused_by_form w form fault.FromUnused asked h = (form, asked, h)
unused_by_form w form fault.ToUnused asked h = (form, asked, h)
unused_by_form w form fault.WidthUnused asked h = (form, asked, h)
unused_by_form w form fault.ThemeUnused asked h = (form, asked, h)
unused_by_form w form fault.TitleUnused asked h = (form, asked, h)
