-- What the words of `simulate` ask for.
use Rattle.std.specs.Prelude.{◌≡◌, ℕ, Bool, true, false, ◌&&◌, ◌||◌, nat_le, List, [], Option, Some, None, String, if◌then◌else◌, codes, is_some, option_and_then, option_map}
use Rattle.std.specs.Global.{Global}
use Rattle.bq_workload.specs.Lengths.{longest}
use Rattle.bq_words.specs.Quantities.{size_in_word, decimal_of}
use Rattle.bq_policy_check.specs.Given.{option_bytes}
use Rattle.bq_timeline.specs.Settings.{AsksForSettings, IsNoSettings, asked_or, form_asked, settings_option_refused as option_unset, settings_word_refused as word_unset}
use Rattle.bq_timeline.specs.declared.settings.ShownWords.{ShownWords}
use Rattle.bq_words.specs.Sizes.{discipline_named}
use Rattle.bq_words.specs.Durations.{duration_of}
use Rattle.bq_workload_file.specs.declared.changes.Changes.{Changes}
use Rattle.bq_experiment.specs.declared.asked.ShownAs.{ShownAs}
use Rattle.bq_experiment.specs.declared.asked.ShownAs.TheVariants.{Trace, Timeline}
use Rattle.bq_experiment.specs.declared.asked.AskedFault.{AskedFault}
use Rattle.bq_experiment.specs.declared.asked.AskedFault.TheVariants as fault
use Rattle.bq_experiment.specs.declared.words.MachineWords.{MachineWords}
use Rattle.bq_experiment.specs.declared.words.StudyWords.{StudyWords}

-- a change, if a word asks for one
abbrev pub change_asked : {A : Type 0} → (List ℕ → Option A) → Option (String Global) → Option (Option A)
change_asked read word = asked_or None (λ w. option_map Some (read w)) word

-- a time that can be simulated: from 1 to 2^48 - 1 ns
abbrev pub simulable : ℕ → Option ℕ
simulable time = if nat_le 1 time && nat_le time longest then Some time else None

-- the time that a word writes with its unit, if it can be simulated
abbrev pub simulable_time : List ℕ → Option ℕ
simulable_time word = option_and_then simulable (duration_of word)

-- the words ask for these changes of the machine
pub record AskForChanges (w : MachineWords) (c : Changes) : Type 0 where
  pub discipline : change_asked discipline_named w.discipline ≡ Some c.discipline
  pub size : change_asked size_in_word w.processors ≡ Some c.size
  pub duration : change_asked simulable_time w.duration ≡ Some c.duration
  pub seed : change_asked decimal_of w.seed ≡ Some c.seed

-- the word that the fault names is not of its kind
abbrev pub IsNoChange : MachineWords → AskedFault → Type 0
IsNoChange w fault.Discipline = change_asked discipline_named w.discipline ≡ None
IsNoChange w fault.Processors = change_asked size_in_word w.processors ≡ None
IsNoChange w fault.Duration = change_asked simulable_time w.duration ≡ None
IsNoChange w fault.Seed = change_asked decimal_of w.seed ≡ None
IsNoChange w other = ⊥

-- the form is called a trace
abbrev pub NamesTrace : StudyWords → Type 0
NamesTrace w = option_bytes w.shown.form ≡ Some (codes "trace")

-- the words choose what is shown, and how: a stretch of time, processors, tasks, a width, a theme or a title
abbrev pub chooses_part : ShownWords → Bool
chooses_part w =
    is_some w.from || (is_some w.to || (is_some w.cpus || (is_some w.tasks || (is_some w.width || (is_some w.theme || is_some w.title)))))

-- a trace, which is written whole, if the form is `trace`; otherwise what a timeline shows by these words
abbrev pub AskToShow : StudyWords → ShownAs → Type 0
AskToShow w Trace = NamesTrace w × (chooses_part w.shown ≡ false)
AskToShow w (Timeline settings) = (¬ NamesTrace w) × AsksForSettings w.shown settings

-- the word that the fault names is not of its kind, or a part is chosen of a trace
abbrev pub IsNotShown : StudyWords → AskedFault → Type 0
IsNotShown w fault.WholeTrace = NamesTrace w × (chooses_part w.shown ≡ true)
IsNotShown w fault.Form = (¬ NamesTrace w) × (form_asked w.shown ≡ None)
IsNotShown w (fault.Settings why) = (¬ NamesTrace w) × IsNoSettings w.shown why
IsNotShown w other = ⊥

-- the word that a fault refuses; none if the fault is not that of one word
abbrev pub asked_word_refused : StudyWords → AskedFault → Option (String Global)
asked_word_refused w fault.Discipline = w.machine.discipline
asked_word_refused w fault.Processors = w.machine.processors
asked_word_refused w fault.Duration = w.machine.duration
asked_word_refused w fault.Seed = w.machine.seed
asked_word_refused w fault.Form = w.shown.form
asked_word_refused w fault.WholeTrace = None
asked_word_refused w (fault.Settings why) = word_unset w.shown why

-- the option of the word that a fault refuses
abbrev pub asked_option_refused : AskedFault → List ℕ
asked_option_refused fault.Discipline = codes "discipline"
asked_option_refused fault.Processors = codes "processors"
asked_option_refused fault.Duration = codes "duration"
asked_option_refused fault.Seed = codes "seed"
asked_option_refused fault.Form = codes "as"
asked_option_refused fault.WholeTrace = []
asked_option_refused (fault.Settings why) = option_unset why
