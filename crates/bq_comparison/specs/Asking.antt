-- What the words of a comparison ask for.
use Rattle.std.specs.Prelude.{◌≡◌, ℕ, Bool, true, false, ◌&&◌, ◌||◌, is_some, nat_le, List, [], Option, Some, None, IsNone, String, if◌then◌else◌, codes, option_and_then, string_bytes}
use Rattle.std.specs.Global.{Global}
use Rattle.bq_words.specs.Quantities.{decimal_of}
use Rattle.bq_timeline.specs.Settings.{AsksForSettings, IsNoSettings, form_asked, settings_option_refused as option_unset, settings_word_refused as word_unset}
use Rattle.bq_timeline.specs.declared.form_names.FormName.{FormName}
use Rattle.bq_timeline.specs.declared.form_names.FormName.TheVariants as form
use Rattle.bq_timeline.specs.declared.settings.Settings.{Settings}
use Rattle.bq_timeline.specs.declared.settings.ShownWords.{ShownWords}
use Rattle.bq_experiment.specs.declared.words.StudyWords.{StudyWords}
use Rattle.bq_comparison.specs.declared.asked.Comparing.{Comparing}
use Rattle.bq_comparison.specs.declared.asked.ComparingFault.{ComparingFault}
use Rattle.bq_comparison.specs.declared.asked.ComparingFault.TheVariants as fault
use Rattle.bq_comparison.specs.declared.asked.TableForm.{TableForm}
use Rattle.bq_comparison.specs.declared.asked.TableForm.TheVariants as table
use Rattle.bq_comparison.specs.declared.asked.TheConstants.{MOST_SEEDS}

-- a number from the least to the most
abbrev pub number_between : ℕ → ℕ → Option ℕ → Option ℕ
number_between least most None = None
number_between least most (Some n) = if nat_le least n && nat_le n most then Some n else None

-- a number of seeds: decimal, from 1 to the most that may be asked for
abbrev pub seeds_in : List ℕ → Option ℕ
seeds_in word = number_between 1 MOST_SEEDS (decimal_of word)

-- the number of seeds, if the words are right: one, if none of them says how many
abbrev pub seeds_asked : Option (String Global) → Option ℕ
seeds_asked None = Some 1
seeds_asked (Some word) = seeds_in (string_bytes word)

-- the form of a table, if it is one
abbrev pub table_of : FormName → Option TableForm
table_of form.Report = Some table.Report
table_of form.Csv = Some table.Csv
table_of form.Json = Some table.Json
table_of other = None

-- the form of a table, if the words are right: a report if none is named
abbrev pub table_asked : ShownWords → Option TableForm
table_asked w = option_and_then table_of (form_asked w)

-- neither several seeds nor something to compare with
abbrev pub AskForNone : StudyWords → Type 0
AskForNone words = IsNone words.seeds × (words.against.items ≡ [])

-- the words name a stretch of time
abbrev pub names_stretch : ShownWords → Bool
names_stretch w = is_some w.from || is_some w.to

-- the words ask for this many seeds, and for a table of that form that shows the window and the names that they ask for; they name no
-- stretch of time, since the figures are of whole runs
pub record AskToCompare (words : StudyWords) (c : Comparing) : Type 0 where
  pub seeds : seeds_asked words.seeds ≡ Some c.seeds
  pub settings : Settings
  pub shown : AsksForSettings words.shown settings
  pub whole : names_stretch words.shown ≡ false
  pub window : c.window ≡ settings.window
  pub names : c.names ≡ settings.names
  pub form : table_of settings.form ≡ Some c.form

-- nothing if neither seeds nor other policies are asked for; otherwise this comparison
abbrev pub AskFor : StudyWords → Option Comparing → Type 0
AskFor words None = AskForNone words
AskFor words (Some c) = (¬ AskForNone words) × AskToCompare words c

-- the fault is right: the word of the seeds is no number of seeds, the form is not one of a table, a timeline does not know the
-- words, or they name a stretch of time
abbrev pub HasNoWord : StudyWords → ComparingFault → Type 0
HasNoWord words fault.Seeds = seeds_asked words.seeds ≡ None
HasNoWord words fault.Form = table_asked words.shown ≡ None
HasNoWord words fault.WholeRuns = names_stretch words.shown ≡ true
HasNoWord words (fault.Settings why) = IsNoSettings words.shown why

-- a comparison is asked for, and the word that the fault names is not of its kind
abbrev pub IsNoComparison : StudyWords → ComparingFault → Type 0
IsNoComparison words why = (¬ AskForNone words) × HasNoWord words why

-- the word that a fault refuses; none if the fault is not that of one word
abbrev pub comparing_word_refused : StudyWords → ComparingFault → Option (String Global)
comparing_word_refused words fault.Seeds = words.seeds
comparing_word_refused words fault.Form = words.shown.form
comparing_word_refused words fault.WholeRuns = None
comparing_word_refused words (fault.Settings why) = word_unset words.shown why

-- the option of the word that a fault refuses
abbrev pub comparing_option_refused : ComparingFault → List ℕ
comparing_option_refused fault.Seeds = codes "seeds"
comparing_option_refused fault.Form = codes "as"
comparing_option_refused fault.WholeRuns = []
comparing_option_refused (fault.Settings why) = option_unset why
