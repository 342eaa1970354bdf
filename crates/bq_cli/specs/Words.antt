-- The words of each command: the values that clap found for its options.
use Rattle.std.specs.Prelude.{◌≡◌, ◌↔◌, ◌+◌, ◌&&◌, ℕ, Bool, false, IsTrue, List, [], Option, Some, String, codes, is_some, map, not, option_and_then, option_map, string_bytes, unwrap_or}
use Rattle.std.specs.Borrow.{Bor}
use Rattle.std.specs.List.{list_any}
use Rattle.std.specs.Str.{bytes_eq}
use Rattle.std.specs.declared.alloc.Global.{Global}
use Rattle.clap.specs.Words.{Row, Text, all_of, first_of}
use Rattle.bq_hooks.specs.Hooks.{hook_of, version_of}
use Rattle.bq_hooks.specs.declared.hook.Hook.{Hook}
use Rattle.bq_hooks.specs.declared.hook.Version.{Version}
use Rattle.bq_console.specs.Words.{GivesWord, IsNumber}
use Rattle.bq_console.specs.declared.fault.WordsFault.{WordsFault}
use Rattle.bq_console.specs.declared.fault.WordsFault.TheVariants.{OutOfMemory}
use Rattle.bq_words.specs.Quantities.{size_in_word, decimal_of}
use Rattle.bq_policy_check.specs.Given.{option_bytes}
use Rattle.bq_policy_check.specs.declared.words.CheckWords.{CheckWords}
use Rattle.bq_policy_check.specs.declared.words.LimitWords.{LimitWords}
use Rattle.bq_policy_check.specs.declared.words.DisWords.{DisWords}
use Rattle.bq_policy_check.specs.declared.words.PolicyWords.{PolicyWords}
use Rattle.bq_policy_check.specs.declared.words.RunWords.{RunWords}
use Rattle.bq_policy_check.specs.declared.words.ReportWords.{ReportWords}
use Rattle.bq_policy_file.specs.Forms.{maps_option_text}
use Rattle.bq_experiment.specs.declared.words.HookWords.{HookWords}
use Rattle.bq_experiment.specs.declared.words.MachineWords.{MachineWords}
use Rattle.bq_experiment.specs.declared.words.StudyWords.{StudyWords}
use Rattle.bq_timeline.specs.declared.settings.ShownWords.{ShownWords}
use Rattle.bq_words.specs.Numbers.{below}
use Rattle.bq_words.specs.Sizes.{discipline_named}
use Rattle.bq_cli.specs.declared.asm.AsmWords.{AsmWords}
use Rattle.bq_cli.specs.declared.par.ParWords.{ParWords}
use Rattle.bq_cli.specs.declared.par.TheConstants.{MOST_TICKS}
use Rattle.bq_cli.specs.declared.replaying.ReplayWords.{ReplayWords}
use Rattle.bq_cli.specs.declared.simulate.SimulateWords.{SimulateWords}
use Rattle.bq_cli.specs.declared.timeline.TimelineWords.{TimelineWords}

-- the word is the first that was found for the option
abbrev pub IsFirstWord : Text → List Row → Option (String Global) → Type 0
IsFirstWord option rows word = option_bytes word ≡ first_of option rows

-- the flag was found
abbrev pub IsSet : Text → List Row → Bool → Type 0
IsSet flag rows set = IsTrue set ↔ (first_of flag rows ≡ Some (codes "true"))

-- the words are all that were found for the option, in their order
abbrev pub AreAll : Text → List Row → List (String Global) → Type 0
AreAll option rows words = map (λ w. string_bytes w) words ≡ unwrap_or (all_of option rows) []

-- the word names the hook, or there is neither
abbrev pub GivesHook : Option (List ℕ) → Option Hook → Type 0
GivesHook = GivesWord (λ word hook. hook_of word ≡ Some hook)

-- the word names the version, or there is neither
abbrev pub GivesVersion : Option (List ℕ) → Option Version → Type 0
GivesVersion = GivesWord (λ word version. version_of word ≡ Some version)

-- the values of `asm`: the hook and the version that the words name, and the text of the maps as it is
pub record AreAsmWords (rows : List Row) (w : AsmWords) : Type 0 where
  pub file : IsFirstWord (codes "file") rows w.file
  pub max_bytes : IsFirstWord (codes "max-bytes") rows w.max_bytes
  pub hook : GivesHook (first_of (codes "hook") rows) w.options.hook
  pub maps : maps_option_text w.options ≡ first_of (codes "maps") rows
  pub format : GivesVersion (first_of (codes "format") rows) w.options.format

-- a policy's file, and what is said beside it; also the values of `import`
pub record ArePolicyWords (rows : List Row) (w : PolicyWords) : Type 0 where
  pub file : IsFirstWord (codes "file") rows w.file
  pub hook : IsFirstWord (codes "hook") rows w.hook
  pub maps : IsFirstWord (codes "maps") rows w.maps
  pub format : IsFirstWord (codes "format") rows w.format
  pub max_bytes : IsFirstWord (codes "max-bytes") rows w.max_bytes

-- the keeper's own limits
pub record AreLimitWords (rows : List Row) (w : LimitWords) : Type 0 where
  pub steps : IsFirstWord (codes "max-steps") rows w.steps
  pub helpers : IsFirstWord (codes "helpers") rows w.helpers
  pub hooks : IsFirstWord (codes "hooks") rows w.hooks
  pub maps : IsFirstWord (codes "max-maps") rows w.maps
  pub map_bytes : IsFirstWord (codes "max-map-bytes") rows w.map_bytes
  pub counters : IsFirstWord (codes "max-counters") rows w.counters

-- the values of `check`
pub record AreCheckWords (rows : List Row) (w : CheckWords) : Type 0 where
  pub policy : ArePolicyWords rows w.policy
  pub files : AreAll (codes "file") rows w.files.items
  pub explained : IsSet (codes "explain") rows w.is_explained
  pub json : IsSet (codes "json") rows w.is_json
  pub limits : AreLimitWords rows w.limits
  pub image : IsFirstWord (codes "image") rows w.image

-- the values of `dis`
pub record AreDisWords (rows : List Row) (w : DisWords) : Type 0 where
  pub policy : ArePolicyWords rows w.policy
  pub slots : IsSet (codes "slots") rows w.has_slots

-- how a run is reported
pub record AreReportWords (rows : List Row) (w : ReportWords) : Type 0 where
  pub traced : IsSet (codes "trace") rows w.is_traced
  pub repeat : IsFirstWord (codes "repeat") rows w.repeat

-- the values of `run`
pub record AreRunWords (rows : List Row) (w : RunWords) : Type 0 where
  pub policy : ArePolicyWords rows w.policy
  pub report : AreReportWords rows w.report
  pub context : IsFirstWord (codes "ctx") rows w.context
  pub fields : AreAll (codes "set") rows w.fields.items
  pub entries : AreAll (codes "map") rows w.entries.items
  pub counters : AreAll (codes "counter") rows w.counters.items
  pub time : IsFirstWord (codes "time") rows w.time
  pub processor : IsFirstWord (codes "processor") rows w.processor

-- a limit is the number that the word writes in decimal, or this one without a word
pub record IsLimit (usual : ℕ) (word : Option (List ℕ)) (most : ℕ) : Type 0 where
  pub stated : Option ℕ
  pub gives : GivesWord IsNumber word stated
  pub is : most ≡ unwrap_or stated usual

-- there is a word, and it names this value
abbrev pub NamesValue : {A : Type 0} → (List ℕ → Option A) → Option (Bor (List ℕ)) → A → Type 0
NamesValue named word value = option_and_then named (option_map (λ w. w.now) word) ≡ Some value

-- where a value is as it should be, nothing but memory is at fault
abbrev pub OnlyMemoryFails : {A : Type 0} → (A → Type 0) → WordsFault → Type 0
OnlyMemoryFails {A} IsRight why = (value : A) → IsRight value → why ≡ OutOfMemory

-- a number of ticks
abbrev pub ticks_of : List ℕ → Option ℕ
ticks_of word = below (MOST_TICKS + 1) (decimal_of word)

-- the values of `par`
pub record AreParWords (rows : List Row) (p : ParWords) : Type 0 where
  pub discipline : option_and_then discipline_named (first_of (codes "rule") rows) ≡ Some p.discipline
  pub size : option_and_then size_in_word (first_of (codes "processors") rows) ≡ Some p.size
  pub ticks : option_and_then ticks_of (first_of (codes "ticks") rows) ≡ Some p.ticks

-- the values of `replay`
pub record AreReplayWords (rows : List Row) (w : ReplayWords) : Type 0 where
  pub file : IsFirstWord (codes "file") rows w.file
  pub max_bytes : IsFirstWord (codes "max-bytes") rows w.max_bytes

-- a file, and how it is shown
pub record AreShownWords (rows : List Row) (w : ShownWords) : Type 0 where
  pub file : IsFirstWord (codes "file") rows w.file
  pub form : IsFirstWord (codes "as") rows w.form
  pub from : IsFirstWord (codes "from") rows w.from
  pub to : IsFirstWord (codes "to") rows w.to
  pub cpus : IsFirstWord (codes "cpus") rows w.cpus
  pub tasks : IsFirstWord (codes "tasks") rows w.tasks
  pub width : IsFirstWord (codes "width") rows w.width
  pub theme : IsFirstWord (codes "theme") rows w.theme
  pub title : IsFirstWord (codes "title") rows w.title

-- the values of `timeline`
pub record AreTimelineWords (rows : List Row) (w : TimelineWords) : Type 0 where
  pub shown : AreShownWords rows w.shown
  pub max_bytes : IsFirstWord (codes "max-bytes") rows w.max_bytes

-- the words that replace parts of a workload's own machine
pub record AreMachineWords (rows : List Row) (w : MachineWords) : Type 0 where
  pub discipline : IsFirstWord (codes "discipline") rows w.discipline
  pub processors : IsFirstWord (codes "processors") rows w.processors
  pub duration : IsFirstWord (codes "duration") rows w.duration
  pub seed : IsFirstWord (codes "seed") rows w.seed

-- the policies at the hooks
pub record AreHookWords (rows : List Row) (w : HookWords) : Type 0 where
  pub place : IsFirstWord (codes "place") rows w.place
  pub preempt : IsFirstWord (codes "preempt") rows w.preempt
  pub pull : IsFirstWord (codes "pull") rows w.pull

-- a simulation, and how it is shown
pub record AreStudyWords (rows : List Row) (w : StudyWords) : Type 0 where
  pub machine : AreMachineWords rows w.machine
  pub seeds : IsFirstWord (codes "seeds") rows w.seeds
  pub hooks : AreHookWords rows w.hooks
  pub against : AreAll (codes "against") rows w.against.items
  pub shown : AreShownWords rows w.shown

-- the values of `simulate`
pub record AreSimulateWords (rows : List Row) (w : SimulateWords) : Type 0 where
  pub study : AreStudyWords rows w.study
  pub max_bytes : IsFirstWord (codes "max-bytes") rows w.max_bytes
  pub max_events : IsFirstWord (codes "max-events") rows w.max_events

-- no word names a file, a hook, maps, a format or a number of bytes
abbrev pub name_nothing : PolicyWords → Bool
name_nothing w = not (is_some w.file) && (not (is_some w.hook) && (not (is_some w.maps) && (not (is_some w.format) && not (is_some w.max_bytes))))

-- no word sets a limit
abbrev pub limit_nothing : LimitWords → Bool
limit_nothing w = not (is_some w.steps) && (not (is_some w.helpers) && (not (is_some w.hooks)
    && (not (is_some w.maps) && (not (is_some w.map_bytes) && not (is_some w.counters)))))

-- `check` without file and options
abbrev pub is_plain_check : CheckWords → Bool
is_plain_check w = name_nothing w.policy && (not w.is_explained && (not w.is_json && (limit_nothing w.limits && not (is_some w.image))))

-- a word is one of some words
abbrev pub is_among : List ℕ → List (String Global) → Bool
is_among word others = list_any (λ other. bytes_eq (string_bytes other) word) others

-- the image of `check` would go to a file of a policy
abbrev pub replaces_policy : CheckWords → Bool
replaces_policy w = unwrap_or (option_map (λ path. is_among path w.files.items) (option_bytes w.image)) false

-- `dis` without file and options
abbrev pub is_plain_dis : DisWords → Bool
is_plain_dis w = name_nothing w.policy && not w.has_slots
