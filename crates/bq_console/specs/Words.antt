-- The words of a command: their parts, the numbers that they write, and what it means that they are refused.
use Rattle.std.specs.Prelude.{◌≡◌, ◌≢◌, ℕ, ◌<◌, ◌==◌, ◌&&◌, ◌||◌, Bool, false, not, nat_eq, nat_lt, List, [], ◌∷◌, ◌++◌, Option, Some, None, Result, Ok, Err, String, if◌then◌else◌, codes, length, slice_index}
use Rattle.std.specs.Char.{is_ascii_digit}
use Rattle.std.specs.List.{list_any, starts_with}
use Rattle.std.specs.Str.{bytes_eq}
use Rattle.std.specs.declared.alloc.AllocError.{AllocError}
use Rattle.std.specs.declared.alloc.Global.{Global}
use Rattle.bq_words.specs.Numbers.{number_in_base, value_of}
use Rattle.bq_console.specs.declared.fault.WordsFault.{WordsFault}
use Rattle.bq_console.specs.declared.fault.WordsFault.TheVariants as fault

-- the fault with this text, or that memory ran out for it
abbrev pub words_fault : Result (String Global) AllocError → WordsFault
words_fault (Ok text) = fault.Words text
words_fault (Err e) = fault.OutOfMemory

-- words that are refused say none of that kind; if memory runs out, nothing is said of the words
abbrev pub GivesNone : {A : Type 0} → (A → Type 0) → WordsFault → Type 0
GivesNone {A} Gives (fault.Words why) = (a : A) → ¬ Gives a
GivesNone Gives fault.OutOfMemory = Unit {0}

-- without a word there is no value; a word has its value
abbrev pub GivesWord : {A : Type 0} → (List ℕ → A → Type 0) → Option (List ℕ) → Option A → Type 0
GivesWord P None None = Unit {0}
GivesWord P (Some word) (Some value) = P word value
GivesWord P word value = ⊥

-- the mark is not in the text
abbrev pub IsFreeOf : ℕ → List ℕ → Type 0
IsFreeOf mark text = (i : ℕ) → i < length text → slice_index text i ≢ mark

-- the two parts of the text around its first such mark
pub record IsSplitAtMark (mark : ℕ) (text before behind : List ℕ) : Type 0 where
  pub splits : text ≡ before ++ (mark ∷ behind)
  pub first : IsFreeOf mark before

-- the word writes the number in decimal
abbrev pub IsNumber : List ℕ → ℕ → Type 0
IsNumber word number = number_in_base 10 word ≡ Some number

-- a number in decimal, or in hex after `0x`
abbrev pub IsNumberWord : List ℕ → ℕ → Type 0
IsNumberWord word number = value_of word ≡ Some number

-- an option by its name, which has no value behind `=`
abbrev pub is_option : List ℕ → Bool
is_option word = nat_lt 2 (length word) && (starts_with nat_eq word (codes "--") && not (list_any (λ b. b == 61) word))

-- a negative number: a digit follows the `-`
abbrev pub is_negative : List ℕ → Bool
is_negative (sign ∷ digit ∷ more) = sign == 45 && is_ascii_digit digit
is_negative other = false

-- the word after which all are files
abbrev pub is_end : List ℕ → Bool
is_end word = bytes_eq word (codes "--")

-- a negative number is joined to the option before it, unless the options have ended
abbrev pub is_joined : Bool → List ℕ → List ℕ → Bool
is_joined ended option value = not ended && (is_option option && is_negative value)

-- words with each negative number joined to the option before it by `=`, as `--seed=-1`; after the word `--` all are files. `ended` says
-- whether that word came before.
abbrev pub options_joined : Bool → List (List ℕ) → List (List ℕ)
options_joined ended [] = []
options_joined ended (word ∷ []) = word ∷ []
options_joined ended (word ∷ value ∷ more) =
    if is_joined ended word value then (word ++ (codes "=" ++ value)) ∷ options_joined ended more
    else word ∷ options_joined (ended || is_end word) (value ∷ more)
