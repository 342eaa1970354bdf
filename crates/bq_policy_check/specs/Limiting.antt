-- The limits that the words of a command set.
use Rattle.std.specs.Prelude.{◌≡◌, ℕ, ◌^◌, ℤ, pos, Bool, MatchBool, List, [], ◌∷◌, Some, option_map}
use Rattle.std.specs.List.{AllZip}
use Rattle.std.specs.declared.alloc.Global.{Global}
use Rattle.std.specs.declared.vec.Vec.{Vec}
use Rattle.bq_words.specs.Numbers.{number_in_base}
use Rattle.bq_bpf.specs.Helpers.{number_of_helper}
use Rattle.bq_bpf.specs.declared.helper.Helper.{Helper}
use Rattle.bq_explain.specs.declared.limits.Limits.{Limits}
use Rattle.bq_words.specs.Words.{parts}
use Rattle.bq_console.specs.Words.{GivesWord}
use Rattle.bq_hooks.specs.Hooks.{hook_of}
use Rattle.bq_hooks.specs.declared.hook.Hook.{Hook}
use Rattle.bq_policy_check.specs.declared.words.LimitWords.{LimitWords}
use Rattle.bq_policy_check.specs.Given.{IsNumberBelow, option_bytes}

-- the word writes the number of a helper, in decimal
abbrev pub IsHelperWord : List ℕ → ℤ → Type 0
IsHelperWord word number = (h : Helper) × (number_of_helper h ≡ number) × (option_map (λ n. pos n) (number_in_base 10 word) ≡ Some number)

-- the word names the hook
abbrev pub IsHook : List ℕ → Hook → Type 0
IsHook word hook = hook_of word ≡ Some hook

-- the parts between commas; an empty text has none
abbrev pub words_of_list : List ℕ → List (List ℕ)
words_of_list [] = []
words_of_list (c ∷ rest) = parts 44 (c ∷ rest)

-- whether each part between commas writes such a value: then these are the values, in their turn
abbrev pub ReadsParts : {A : Type 0} → (List ℕ → A → Type 0) → List ℕ → List A → Bool → Type 0
ReadsParts {A} Writes text values all = MatchBool all (AllZip Writes (parts 44 text) values) ((others : List A) → ¬ AllZip Writes (parts 44 text) others)

-- each part writes a helper, in its turn
abbrev pub NamesHelpers : List ℕ → Vec ℤ Global → Type 0
NamesHelpers text helpers = AllZip IsHelperWord (words_of_list text) helpers.items

-- the text names no helpers
abbrev pub NamesNoHelpers : List ℕ → Type 0
NamesNoHelpers text = (helpers : Vec ℤ Global) → ¬ NamesHelpers text helpers

-- each part is the word of a hook, in its turn
abbrev pub NamesHooks : List ℕ → Vec Hook Global → Type 0
NamesHooks text hooks = AllZip IsHook (words_of_list text) hooks.items

-- the text names no hooks
abbrev pub NamesNoHooks : List ℕ → Type 0
NamesNoHooks text = (hooks : Vec Hook Global) → ¬ NamesHooks text hooks

-- the word writes a number of 32 bits
abbrev pub IsMost : List ℕ → ℕ → Type 0
IsMost word most = IsNumberBelow (2 ^ 32) word most

-- a limit is the number that is said, of 32 bits; if a list of helpers or hooks is said, the policy is limited to those
pub record HasLimits (w : LimitWords) (l : Limits) : Type 0 where
  pub steps : GivesWord IsMost (option_bytes w.steps) l.steps
  pub helpers : GivesWord NamesHelpers (option_bytes w.helpers) l.helpers
  pub hooks : GivesWord NamesHooks (option_bytes w.hooks) l.hooks
  pub maps : GivesWord IsMost (option_bytes w.maps) l.maps
  pub map_bytes : GivesWord IsMost (option_bytes w.map_bytes) l.map_bytes
  pub counters : GivesWord IsMost (option_bytes w.counters) l.counters
