-- What the lines of a text say of its program in marks, and what is wrong with them.
use Rattle.std.specs.Prelude.{◌≡◌, ℕ, ◌+◌, true, false, List, [], ◌∷◌, ◌++◌, length, Option, Some, None, IsSome}
use Rattle.std.specs.List.{list_all}
use Rattle.std.proofs.Common.{Global}
use Rattle.std.specs.declared.vec.Vec.{Vec}
use Rattle.bq_bpf.specs.declared.shape.MapShape.{MapShape}
use Rattle.bq_policy_file.specs.ShapesText.{NamesShapes, NamesNoShapes}
use Rattle.bq_policy_file.specs.declared.head.Head.{Head}
use Rattle.bq_policy_file.specs.declared.mark.Key.{Key}
use Rattle.bq_policy_file.specs.declared.mark.Key.TheVariants as key
use Rattle.bq_policy_file.specs.declared.mark.Mark.{Mark}
use Rattle.bq_policy_file.specs.declared.mark.Mark.TheVariants.{Nothing, Unknown, States}
use Rattle.bq_policy_file.specs.declared.fault.HeadCause.{HeadCause}
use Rattle.bq_policy_file.specs.declared.fault.HeadCause.TheVariants as cause
use Rattle.bq_policy_file.specs.declared.fault.HeadFault.{HeadFault}
use Rattle.bq_policy_file.specs.declared.fault.HeadFault.TheVariants.{At, OutOfMemory}
use Rattle.bq_policy_file.specs.Marks.{are_known, key_word, mark_words, values}
use Rattle.bq_hooks.specs.Hooks.{hook_of, version_of}

-- what one line is
abbrev pub IsMark : List ℕ → Mark → Type 0
IsMark line Nothing = mark_words line ≡ None
IsMark line Unknown = are_known (mark_words line) ≡ false
IsMark line (States key value) = mark_words line ≡ Some (key_word key ∷ value.now ∷ [])

-- no word is given for a key and there is no value, or one word is given, and it names the value
abbrev pub IsStated : {A : Type 0} → (List ℕ → A → Type 0) → List (List ℕ) → Option A → Type 0
IsStated P [] None = Unit {0}
IsStated P (word ∷ []) (Some value) = P word value
IsStated P words value = ⊥

-- the word names the shapes
abbrev pub NamesMapShapes : List ℕ → Vec MapShape Global → Type 0
NamesMapShapes word shapes = NamesShapes word shapes.items

-- the marks of some lines say this head: each mark is a key and its value, and no key comes twice
pub record StatesHead (lines : List (List ℕ)) (h : Head) : Type 0 where
  pub known : list_all (λ line. are_known (mark_words line)) lines ≡ true
  pub hook : IsStated (λ word hook. hook_of word ≡ Some hook) (values key.Hook lines) h.hook
  pub maps : IsStated NamesMapShapes (values key.Maps lines) h.maps
  pub format : IsStated (λ word version. version_of word ≡ Some version) (values key.Format lines) h.format

-- the word is no value of the key
abbrev pub IsNoValue : Key → List ℕ → Type 0
IsNoValue key.Hook word = hook_of word ≡ None
IsNoValue key.Maps word = NamesNoShapes word
IsNoValue key.Format word = version_of word ≡ None

-- a head has a value for a key
abbrev pub HasKey : Head → Key → Type 0
HasKey h key.Hook = IsSome h.hook
HasKey h key.Maps = IsSome h.maps
HasKey h key.Format = IsSome h.format

-- why a line after the head is wrong; if the head has its key already, its value is not looked at
abbrev pub IsBadLine : Head → List ℕ → HeadCause → Type 0
IsBadLine h line cause.Unknown = are_known (mark_words line) ≡ false
IsBadLine h line (cause.Value key) = (word : List ℕ) × (mark_words line ≡ Some (key_word key ∷ word ∷ [])) × IsNoValue key word × (HasKey h key → ⊥)
IsBadLine h line (cause.Twice key) = (word : List ℕ) × (mark_words line ≡ Some (key_word key ∷ word ∷ [])) × HasKey h key

-- the lines before that number say a head, and that line has this cause
pub record IsBadAt (lines : List (List ℕ)) (number : ℕ) (named : HeadCause) : Type 0 where
  pub before : List (List ℕ)
  pub line : List ℕ
  pub rest : List (List ℕ)
  pub lines_are : lines ≡ before ++ line ∷ rest
  pub number_is : number ≡ length before + 1
  pub head : Head
  pub stated : StatesHead before head
  pub bad : IsBadLine head line named

-- if memory runs out, nothing is said of the lines
abbrev pub IsHeadFault : List (List ℕ) → HeadFault → Type 0
IsHeadFault lines (At number named) = IsBadAt lines number named
IsHeadFault lines OutOfMemory = Unit {0}
