-- What the words of a timeline's options ask for.
use Rattle.std.specs.Prelude.{◌≡◌, ◌<◌, ◌≤◌, ℕ, Bool, true, false, not, filter, map, ◌+◌, ◌-◌, ◌^◌, ◌&&◌, nat_le, nat_lt, List, [], ◌∷◌, ◌++◌, take, drop, position, Option, Some, None, ⊤, String, if◌then◌else◌, codes, option_and_then, option_map, string_bytes}
use Rattle.std.specs.Global.{Global}
use Rattle.std.specs.Char.{is_ascii_digit}
use Rattle.std.specs.List.{range_with_len, slice_split}
use Rattle.std.specs.Str.{bytes_eq}
use Rattle.bq_words.specs.Durations.{duration_of}
use Rattle.bq_words.specs.Quantities.{decimal_of, task_in_word}
use Rattle.bq_words.specs.ProcessorSets.{is_comma, is_dash, processors_of}
use Rattle.bq_drawing.specs.Themes.{theme_of}
use Rattle.bq_drawing.specs.declared.theme.Theme.{Theme}
use Rattle.bq_drawing.specs.declared.theme.Theme.TheVariants.{Light}
use Rattle.bq_timeline.specs.Times.{is_too_great}
use Rattle.bq_timeline.specs.declared.form_names.FormName.{FormName}
use Rattle.bq_timeline.specs.declared.form_names.FormName.TheVariants.{Report, Map, Timehist, Why, Csv, Json, Svg, Perfetto}
use Rattle.bq_timeline.specs.declared.map_width.TheConstants.{GREATEST_WIDTH, LEAST_WIDTH}
use Rattle.bq_timeline.specs.declared.settings.ShownWords.{ShownWords}
use Rattle.bq_timeline.specs.declared.settings.Settings.{Settings}
use Rattle.bq_timeline.specs.declared.settings.SettingsFault.{SettingsFault}
use Rattle.bq_timeline.specs.declared.settings.SettingsFault.TheVariants as fault

-- the form of this name, if there is one
abbrev pub form_named : List ℕ → Option FormName
form_named word =
    if bytes_eq word (codes "report") then Some Report
    else if bytes_eq word (codes "map") then Some Map
    else if bytes_eq word (codes "timehist") then Some Timehist
    else if bytes_eq word (codes "why") then Some Why
    else if bytes_eq word (codes "csv") then Some Csv
    else if bytes_eq word (codes "json") then Some Json
    else if bytes_eq word (codes "svg") then Some Svg
    else if bytes_eq word (codes "perfetto") then Some Perfetto
    else None

-- the tasks from the first to the last, unless the range runs backwards
abbrev pub tasks_between : ℕ → ℕ → Option (List ℕ)
tasks_between first last = if nat_lt last first then None else Some (range_with_len first (last + 1 - first))

-- one task, or a range if there is a dash
abbrev pub tasks_at : List ℕ → Option ℕ → Option (List ℕ)
tasks_at part None = option_map (λ only. only ∷ []) (task_in_word part)
tasks_at part (Some dash) = option_and_then (λ first. option_and_then (tasks_between first) (task_in_word (drop (dash + 1) part))) (task_in_word (take dash part))

-- a part is the name of a task: it is not empty, and does not begin with a digit
abbrev pub is_name : List ℕ → Bool
is_name [] = false
is_name (byte ∷ bytes) = not (is_ascii_digit byte)

-- the tasks that one part names by number; a name adds none
abbrev pub tasks_of_part : List ℕ → Option (List ℕ)
tasks_of_part part = if is_name part then Some [] else tasks_at part (position is_dash part)

-- the tasks that the part names by number are added at the end
abbrev pub AddsPart : List ℕ → List ℕ → List ℕ → Type 0
AddsPart part old new = (more : List ℕ) × (tasks_of_part part ≡ Some more) × (new ≡ old ++ more)

-- the tasks that parts name by number, one part after another; `None` if a part is neither a number, a range nor a name
abbrev pub tasks_in_parts : List (List ℕ) → Option (List ℕ)
tasks_in_parts [] = Some []
tasks_in_parts (part ∷ parts) = option_and_then (λ some. option_map (λ more. some ++ more) (tasks_in_parts parts)) (tasks_of_part part)

-- the tasks that the parts between commas name by number
abbrev pub tasks_in_list : List ℕ → Option (List ℕ)
tasks_in_list word = tasks_in_parts (slice_split is_comma word)

-- the names of tasks among the parts between commas
abbrev pub names_among_parts : List ℕ → List (List ℕ)
names_among_parts word = filter is_name (slice_split is_comma word)

-- this many columns, if the number is from 20 to 10,000, the least and the greatest width
abbrev pub as_width : ℕ → Option ℕ
as_width columns = if nat_le LEAST_WIDTH columns && nat_le columns GREATEST_WIDTH then Some columns else None

-- the columns that a word asks for
abbrev pub width_in_word : List ℕ → Option ℕ
width_in_word word = option_and_then as_width (decimal_of word)

-- what a word asks for, or the default if there is no word
abbrev pub asked_or : {A : Type 0} → A → (List ℕ → Option A) → Option (String Global) → Option A
asked_or a read None = Some a
asked_or a read (Some word) = read (string_bytes word)

-- the form that is asked for, a report if none is named
abbrev pub form_asked : ShownWords → Option FormName
form_asked w = asked_or Report form_named w.form

-- the first moment, 0 if none is named
abbrev pub from_asked : ShownWords → Option ℕ
from_asked w = asked_or 0 duration_of w.from

-- the last moment, no end if none is named
abbrev pub to_asked : ShownWords → Option ℕ
to_asked w = asked_or (2 ^ 64 - 1) duration_of w.to

-- the processors as bits, all if none is named
abbrev pub processors_asked : ShownWords → Option ℕ
processors_asked w = asked_or (2 ^ 64 - 1) processors_of w.cpus

-- the tasks that are asked for by number; empty if no task is named, which means every task
abbrev pub tasks_asked : ShownWords → Option (List ℕ)
tasks_asked w = asked_or [] tasks_in_list w.tasks

-- the names in a word, none if there is no word
abbrev pub names_given : Option (String Global) → List (List ℕ)
names_given None = []
names_given (Some word) = names_among_parts (string_bytes word)

-- the names of the tasks that are asked for by name
abbrev pub names_asked : ShownWords → List (List ℕ)
names_asked w = names_given w.tasks

-- the columns of a map, 80 if no width is named
abbrev pub width_asked : ShownWords → Option ℕ
width_asked w = asked_or 80 width_in_word w.width

-- the theme of a picture, light if none is named
abbrev pub theme_asked : ShownWords → Option Theme
theme_asked w = asked_or Light theme_of w.theme

-- there is a word, and it is a time, but too great
abbrev pub is_great : Option (String Global) → Bool
is_great None = false
is_great (Some word) = is_too_great (string_bytes word)

-- the text of a word, if there is one
abbrev pub optional_word_text : Option (String Global) → Option (List ℕ)
optional_word_text word = option_map (λ (t : String Global). string_bytes t) word

-- the form shows a stretch of time: a report and JSON have the figures of the whole trace
abbrev pub has_stretch : FormName → Bool
has_stretch Report = false
has_stretch Json = false
has_stretch other = true

-- an option sets how wide the form is
abbrev pub has_width : FormName → Bool
has_width Map = true
has_width other = false

-- the form has a theme and a title
abbrev pub is_picture : FormName → Bool
is_picture Svg = true
is_picture other = false

-- an option is missing, or it applies to the form
abbrev pub applies_or_absent : Bool → Option (String Global) → Bool
applies_or_absent applies None = true
applies_or_absent applies (Some word) = applies

-- each option that is given applies to the form; the processors and the tasks apply to every form
pub record AllOptionsApply (form : FormName) (w : ShownWords) : Type 0 where
  pub from : applies_or_absent (has_stretch form) w.from ≡ true
  pub to : applies_or_absent (has_stretch form) w.to ≡ true
  pub width : applies_or_absent (has_width form) w.width ≡ true
  pub theme : applies_or_absent (is_picture form) w.theme ≡ true
  pub title : applies_or_absent (is_picture form) w.title ≡ true

-- the words ask for these settings, and for no option that does not apply to their form
pub record AsksForSettings (w : ShownWords) (s : Settings) : Type 0 where
  pub form : form_asked w ≡ Some s.form
  pub from : from_asked w ≡ Some s.window.from
  pub to : to_asked w ≡ Some s.window.to
  pub ordered : s.window.from ≤ s.window.to
  pub processors : processors_asked w ≡ Some s.window.processors
  pub tasks : tasks_asked w ≡ Some s.window.tasks.items
  pub names : map string_bytes s.names.items ≡ names_asked w
  pub width : width_asked w ≡ Some s.width
  pub theme : theme_asked w ≡ Some s.picture_options.theme
  pub title : optional_word_text s.picture_options.title ≡ optional_word_text w.title
  pub all_apply : AllOptionsApply s.form w

-- both moments are named, and the last is before the first
abbrev pub RunBackwards : ShownWords → Type 0
RunBackwards w = (from : ℕ) × (to : ℕ) × (from_asked w ≡ Some from) × (to_asked w ≡ Some to) × (to < from)

-- the fault names an option that is given, and that does not apply to the form
abbrev pub IsUnusedBy : FormName → ShownWords → SettingsFault → Type 0
IsUnusedBy form w fault.FromUnused = applies_or_absent (has_stretch form) w.from ≡ false
IsUnusedBy form w fault.ToUnused = applies_or_absent (has_stretch form) w.to ≡ false
IsUnusedBy form w fault.WidthUnused = applies_or_absent (has_width form) w.width ≡ false
IsUnusedBy form w fault.ThemeUnused = applies_or_absent (is_picture form) w.theme ≡ false
IsUnusedBy form w fault.TitleUnused = applies_or_absent (is_picture form) w.title ≡ false
IsUnusedBy form w other = ⊥

-- the fault names an option that does not apply to the form that is asked for
abbrev pub IsUnused : ShownWords → SettingsFault → Type 0
IsUnused w why = (form : FormName) × (form_asked w ≡ Some form) × IsUnusedBy form w why

-- the word that the fault names is not of its kind, or is a time that is too great, or the first moment is after the last, or an option does not apply to
-- the form; memory may run out whatever the words are
abbrev pub IsNoSettings : ShownWords → SettingsFault → Type 0
IsNoSettings w fault.Form = form_asked w ≡ None
IsNoSettings w fault.From = (from_asked w ≡ None) × (is_great w.from ≡ false)
IsNoSettings w fault.FromTooGreat = (from_asked w ≡ None) × (is_great w.from ≡ true)
IsNoSettings w fault.To = (to_asked w ≡ None) × (is_great w.to ≡ false)
IsNoSettings w fault.ToTooGreat = (to_asked w ≡ None) × (is_great w.to ≡ true)
IsNoSettings w fault.Backwards = RunBackwards w
IsNoSettings w fault.Processors = processors_asked w ≡ None
IsNoSettings w fault.Tasks = tasks_asked w ≡ None
IsNoSettings w fault.Width = width_asked w ≡ None
IsNoSettings w fault.Theme = theme_asked w ≡ None
IsNoSettings w fault.OutOfMemory = ⊤
IsNoSettings w unused = IsUnused w unused

-- the word that a fault refuses; none if the fault is not that of one word
abbrev pub settings_word_refused : ShownWords → SettingsFault → Option (String Global)
settings_word_refused w fault.Form = w.form
settings_word_refused w fault.From = w.from
settings_word_refused w fault.FromTooGreat = w.from
settings_word_refused w fault.To = w.to
settings_word_refused w fault.ToTooGreat = w.to
settings_word_refused w fault.Processors = w.cpus
settings_word_refused w fault.Tasks = w.tasks
settings_word_refused w fault.Width = w.width
settings_word_refused w fault.Theme = w.theme
settings_word_refused w other = None

-- the option of the word that a fault refuses
abbrev pub settings_option_refused : SettingsFault → List ℕ
settings_option_refused fault.Form = codes "as"
settings_option_refused fault.From = codes "from"
settings_option_refused fault.FromTooGreat = codes "from"
settings_option_refused fault.To = codes "to"
settings_option_refused fault.ToTooGreat = codes "to"
settings_option_refused fault.Processors = codes "cpus"
settings_option_refused fault.Tasks = codes "tasks"
settings_option_refused fault.Width = codes "width"
settings_option_refused fault.Theme = codes "theme"
settings_option_refused other = []
