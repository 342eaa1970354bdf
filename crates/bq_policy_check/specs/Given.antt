-- What the words of a command say of a policy.
use Rattle.std.specs.Prelude.{◌≡◌, ℕ, ◌<◌, List, Option, Some, option_map, String, string_bytes}
use Rattle.std.specs.declared.alloc.Global.{Global}
use Rattle.bq_policy_file.specs.declared.head.Head.{Head}
use Rattle.bq_policy_file.specs.Heads.{NamesMapShapes}
use Rattle.bq_console.specs.Words.{GivesWord}
use Rattle.bq_words.specs.Numbers.{number_in_base}
use Rattle.bq_hooks.specs.Hooks.{hook_of, version_of}
use Rattle.bq_policy_check.specs.declared.answered.Answered.{Answered}
use Rattle.bq_policy_check.specs.declared.answered.Answered.TheVariants.{Words}
use Rattle.bq_policy_check.specs.declared.words.PolicyWords.{PolicyWords}

-- the bytes of a word, if there is one
abbrev pub option_bytes : Option (String Global) → Option (List ℕ)
option_bytes word = option_map (λ w. string_bytes w) word

-- the word writes the number in decimal, and it is below that limit
abbrev pub IsNumberBelow : ℕ → List ℕ → ℕ → Type 0
IsNumberBelow limit word number = (number_in_base 10 word ≡ Some number) × (number < limit)

-- each word says its part of the head
pub record GivesHead (w : PolicyWords) (h : Head) : Type 0 where
  pub hook : GivesWord (λ word hook. hook_of word ≡ Some hook) (option_bytes w.hook) h.hook
  pub maps : GivesWord NamesMapShapes (option_bytes w.maps) h.maps
  pub format : GivesWord (λ word version. version_of word ≡ Some version) (option_bytes w.format) h.format

-- the words are refused
abbrev pub AreWordsRefused : Answered → Type 0
AreWordsRefused answer = (why : String Global) × (answer ≡ Words why)

-- the words are refused, and say none of that kind
abbrev pub IsWordsFault : {A : Type 0} → (A → Type 0) → Answered → Type 0
IsWordsFault {A} Gives answer = AreWordsRefused answer × ((a : A) → ¬ Gives a)
