-- What the words of a command make of the inputs of a run.
use Rattle.std.specs.Prelude.{◌≡◌, ℕ, ◌-◌, ◌^◌, ◌<◌, ◌≤◌, ◌⊎◌, ◌||◌, Bool, true, List, [], ◌∷◌, ◌++◌, length, replicate, Option, Some, None, Ok, String, codes, slice_index, slice_set, string_bytes}
use Rattle.std.specs.Str.{bytes_eq}
use Rattle.std.specs.declared.alloc.Global.{Global}
use Rattle.hex.specs.Hex.{decode_of}
use Rattle.bq_maps.specs.Arrays.{Arrays, HasEntry, bytes_of, entry_begin, value_size_of, with_bytes}
use Rattle.bq_bpf.specs.declared.board.TheConstants.{COUNTERS}
use Rattle.bq_bpf.specs.declared.shape.MapShape.{MapShape}
use Rattle.bq_hooks.specs.declared.hook.Hook.{Hook}
use Rattle.bq_hooks.specs.declared.hook.Hook.TheVariants.{Place, Preempt, Pull}
use Rattle.bq_hooks.specs.declared.hook.Version.{Version}
use Rattle.bq_policy_run.specs.declared.fields.Field.{Field}
use Rattle.bq_policy_run.specs.Fields.{IsField, IsFieldPut}
use Rattle.bq_words.specs.Words.{parts}
use Rattle.bq_console.specs.Words.{IsSplitAtMark, IsNumber, IsNumberWord}

-- each word makes its step, one after another; if two name one place, the last counts
abbrev pub InTurn : {W S : Type 0} → (W → S → S → Type 0) → List W → S → S → Type 0
InTurn step [] before after = after ≡ before
InTurn {W} {S} step (word ∷ words) before after = (between : S) × step word before between × InTurn step words between after

-- each text makes its step, one after another, by its bytes
abbrev pub TextsInTurn : {S : Type 0} → (List ℕ → S → S → Type 0) → List (String Global) → S → S → Type 0
TextsInTurn step texts before after = InTurn (λ (t : String Global). step (string_bytes t)) texts before after

-- the field of that name may show that there is no such task or processor, by the word that has all bits set
abbrev pub shows_nobody : Hook → List ℕ → Bool
shows_nobody Place name = bytes_eq name (codes "waker") || (bytes_eq name (codes "previous") || bytes_eq name (codes "own"))
shows_nobody Preempt name = bytes_eq name (codes "next")
shows_nobody Pull name = bytes_eq name (codes "own")

-- a number, or `none` if the field may show that there is no such task or processor
abbrev pub IsFieldWord : Hook → List ℕ → List ℕ → ℕ → Type 0
IsFieldWord hook name text word = IsNumberWord text word ⊎ ((text ≡ codes "none") × (shows_nobody hook name ≡ true) × (word ≡ 2 ^ 32 - 1))

-- as `task=3`: the field of that name holds the number, and no other byte changes
pub record SetsField (hook : Hook) (version : Version) (part before after : List ℕ) : Type 0 where
  pub name : List ℕ
  pub text : List ℕ
  pub splits : IsSplitAtMark 61 part name text
  pub field : Field
  pub is_field : IsField hook version name field
  pub word : ℕ
  pub is_word : IsFieldWord hook name text word
  pub put : IsFieldPut field word before after

-- as `task=3,mask=0x6`
abbrev pub SetsFields : Hook → Version → List ℕ → List ℕ → List ℕ → Type 0
SetsFields hook version text before after = InTurn (SetsField hook version) (parts 44 text) before after

-- the value's bytes, and zeros up to the size of a value
abbrev pub padded : ℕ → List ℕ → List ℕ
padded size bytes = bytes ++ replicate (size - length bytes) 0

-- a map's number, of 64 bits, a colon and an entry's number
pub record NamesMapEntry (text : List ℕ) (m entry : ℕ) : Type 0 where
  pub number : List ℕ
  pub place : List ℕ
  pub splits : IsSplitAtMark 58 text number place
  pub is_map : IsNumber number m
  pub is_entry : IsNumber place entry
  pub fits : m < 2 ^ 64

-- as `0:2=0a00`: that entry of that map has the bytes, and no other byte changes
pub record SetsEntry (text : List ℕ) (before after : Arrays) : Type 0 where
  pub place : List ℕ
  pub value : List ℕ
  pub splits : IsSplitAtMark 61 text place value
  pub m : ℕ
  pub entry : ℕ
  pub names : NamesMapEntry place m entry
  pub bytes : List ℕ
  pub is_bytes : decode_of value ≡ Ok bytes
  pub there : HasEntry before m entry
  pub fits : length bytes ≤ value_size_of before m
  pub put : after ≡ with_bytes before m (entry_begin before m entry) (padded (value_size_of before m) bytes)

-- a counter's number, `=` and its value
pub record NamesCounter (text : List ℕ) (counter word : ℕ) : Type 0 where
  pub number : List ℕ
  pub value : List ℕ
  pub splits : IsSplitAtMark 61 text number value
  pub is_counter : IsNumber number counter
  pub is_word : IsNumberWord value word

-- as `3=10`: the counter is that number, of 64 bits, and no other changes
pub record SetsCounter (text before after : List ℕ) : Type 0 where
  pub counter : ℕ
  pub word : ℕ
  pub names : NamesCounter text counter word
  pub below : counter < COUNTERS
  pub fits : word < 2 ^ 64
  pub put : after ≡ slice_set before counter word

-- maps of these shapes, all bytes 0
pub record AreZeroMaps (shapes : List MapShape) (maps : Arrays) : Type 0 where
  pub shapes_are : maps.shapes ≡ shapes
  pub zero : (m i : ℕ) → slice_index (bytes_of maps m) i ≡ 0

-- the bytes that a hex text names, of exactly this length; all 0 without a text
abbrev pub IsContextNamed : Option (List ℕ) → ℕ → List ℕ → Type 0
IsContextNamed None len context = context ≡ replicate len 0
IsContextNamed (Some text) len context = (decode_of text ≡ Ok context) × (length context ≡ len)
