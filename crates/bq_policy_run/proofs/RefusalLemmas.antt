-- Words that make no step.
use Rattle.std.proofs.Common.{◌≡◌, ◌≢◌, ℕ, ◌<◌, ◌≤◌, ◌^◌, List, length, get_or, Option, Some, Ok, true, codes, inl, inr, refl, sym, subst, ap, ◌∙◌, arith, slice_get, slice_set, IfNone, None, String, string_bytes}
use Rattle.std.specs.declared.alloc.Global.{Global}
use Rattle.std.specs.Int.{bytes_low_first}
use Rattle.std.specs.Option.{option_zip}
use Rattle.bq_words.specs.Numbers.{value_of}
use Rattle.hex.specs.Hex.{decode_of}
use Rattle.bq_maps.specs.Arrays.{Arrays, HasEntry, entries_in, entry_begin, value_size_of, with_bytes}
use Rattle.bq_bpf.proofs.MapLemmas.{length-overwrite}
use Rattle.bq_bpf.specs.Memory.{overwrite}
use Rattle.bq_bpf.specs.declared.shape.MapShape.{MapShape}
use Rattle.bq_hooks.specs.declared.hook.Hook.{Hook}
use Rattle.bq_hooks.specs.declared.hook.Version.{Version}
use Rattle.bq_console.specs.declared.fault.WordsFault.{WordsFault}
use Rattle.bq_policy_run.specs.declared.fields.Field.{Field}
use Rattle.bq_policy_run.specs.declared.fields.FieldWidth.{FieldWidth}
use Rattle.bq_policy_run.specs.declared.fields.FieldWidth.TheVariants.{Four, Eight}
use Rattle.bq_policy_run.specs.Fields.{IsField, IsPasted, IsFieldPut, bytes_in}
use Rattle.bq_policy_run.specs.Naming.{IsFieldWord, NamesCounter, NamesMapEntry, SetsCounter, SetsEntry, SetsField, SetsFields, TextsInTurn, padded, shows_nobody}
use Rattle.bq_words.specs.Words.{parts}
use Rattle.bq_console.specs.Words.{IsSplitAtMark, IsFreeOf, IsNumber, IsNumberWord, GivesNone}
use Rattle.bq_policy_run.proofs.FieldLemmas.{goes_once}
use Rattle.bq_policy_run.proofs.InTurnLemmas.{IsSeen, turn_refused, turns_seen}
use Rattle.bq_console.proofs.WordLemmas.{cut_once, free_cut, number_once, value_once}

-- a word that fits a field is of 64 bits
word_small : (width : FieldWidth) (word : ℕ) → word < 256 ^ bytes_in width → word < 2 ^ 64
word_small Four word fits = omega arith
word_small Eight word fits = omega arith

-- `none` writes no number
none_unnumbered : (text : List ℕ) (word : ℕ) → text ≡ codes "none" → ¬ IsNumberWord text word
none_unnumbered text word is value =
    let both : None ≡ Some word = subst (λ (w : List ℕ). value_of w ≡ Some word) is value in
    absurd (cc)

-- a text writes one word for a field
field_word_once : (hook : Hook) (name text : List ℕ) (m n : ℕ) → IsFieldWord hook name text m → IsFieldWord hook name text n → m ≡ n
field_word_once hook name text m n (inl a) (inl b) = value_once text m n a b
field_word_once hook name text m n (inl a) (inr b) = absurd (none_unnumbered text m b.0 a)
field_word_once hook name text m n (inr a) (inl b) = absurd (none_unnumbered text n a.0 b)
field_word_once hook name text m n (inr a) (inr b) = a.2 ∙ sym b.2

-- what is no number, and not `none` for a field that may show nobody, writes no word for the field
pub no_field_word : (hook : Hook) (name text : List ℕ) → ((word : ℕ) → word < 2 ^ 64 → ¬ IsNumberWord text word)
    → ¬ ((text ≡ codes "none") × (shows_nobody hook name ≡ true)) → (word : ℕ) → word < 2 ^ 64
    → ¬ IsFieldWord hook name text word
no_field_word hook name text no_number named word fits (inl number) = no_number word fits number
no_field_word hook name text no_number named word fits (inr nobody) = named (nobody.0, nobody.1)

-- a word of the same text for a field of the same name
same_word : (hook : Hook) (name text other again : List ℕ) (word : ℕ)
    → name ≡ other → text ≡ again → IsFieldWord hook name text word → IsFieldWord hook other again word
same_word hook name text other again word names texts is =
    subst (λ (t : List ℕ). IsFieldWord hook other t word) texts (subst (λ (n : List ℕ). IsFieldWord hook n text word) names is)

-- what writes no word for the field is set nowhere
pub no_field_value : (hook : Hook) (version : Version) (part before name text : List ℕ)
    → IsSplitAtMark 61 part name text → ((word : ℕ) → word < 2 ^ 64 → ¬ IsFieldWord hook name text word)
    → (after : List ℕ) → ¬ SetsField hook version part before after
no_field_value hook version part before name text cut none after sets =
    let once = cut_once 61 part sets.name sets.text name text sets.splits cut in
    none sets.word (word_small sets.field.width sets.word sets.put.fits)
    (same_word hook sets.name sets.text name text sets.word once.0 once.1 sets.is_word)

-- what names no field sets none
pub no_field_named : (hook : Hook) (version : Version) (part before name text : List ℕ)
    → IsSplitAtMark 61 part name text → ((field : Field) → ¬ IsField hook version name field)
    → (after : List ℕ) → ¬ SetsField hook version part before after
no_field_named hook version part before name text cut none after sets =
    let once = cut_once 61 part sets.name sets.text name text sets.splits cut in
    none sets.field (subst (λ (n : List ℕ). IsField hook version n sets.field) once.0 sets.is_field)

-- a word is put alike into two fields in one place
put_same : (f g : Field) (word : ℕ) (before after : List ℕ) → f.at ≡ g.at → f.width ≡ g.width → IsFieldPut f word before after
    → IsFieldPut g word before after
put_same f g word before after at width put = record {
  fits = subst (λ (w : FieldWidth). word < 256 ^ bytes_in w) width put.fits;
  pasted =
      subst (λ (w : FieldWidth). IsPasted g.at (bytes_low_first 0 (bytes_in w) word) before after) width
      (subst (λ (k : ℕ). IsPasted k (bytes_low_first 0 (bytes_in f.width) word) before after) at put.pasted);
}

-- a word that cannot be put into the field is not set
pub no_field_put : (hook : Hook) (version : Version) (part before name text : List ℕ) (word : ℕ) (field : Field)
    → IsSplitAtMark 61 part name text → IsFieldWord hook name text word → IsField hook version name field
    → ((after : List ℕ) → ¬ IsFieldPut field word before after)
    → (after : List ℕ) → ¬ SetsField hook version part before after
no_field_put hook version part before name text word field cut is_word is_field none after sets =
    let once = cut_once 61 part sets.name sets.text name text sets.splits cut in
    let same : sets.word ≡ word =
    field_word_once hook name text sets.word word
    (same_word hook sets.name sets.text name text sets.word once.0 once.1 sets.is_word) is_word in
    let goes =
    goes_once hook name sets.field field
    (subst (λ (n : List ℕ). IsField hook version n sets.field) once.0 sets.is_field).named is_field.named in
    none after
    (subst (λ (w : ℕ). IsFieldPut field w before after) same (put_same sets.field field sets.word before after goes.0 goes.1 sets.put))

-- of a context its length is seen
pub field_seen : (hook : Hook) (version : Version) → IsSeen (SetsField hook version) (λ (context : List ℕ). length context)
field_seen hook version = record {
  keeps = λ part before after sets.
      ap (λ (context : List ℕ). length context) sets.put.pasted.pasted
      ∙ length-overwrite before sets.field.at _ sets.put.pasted.inside;
  moves = λ part before after other sets same.
      let bytes : List ℕ = bytes_low_first 0 (bytes_in sets.field.width) sets.word in
      let inside = sets.put.pasted.inside in (
        overwrite other sets.field.at bytes,
        record {
          name = sets.name;
          text = sets.text;
          splits = sets.splits;
          field = sets.field;
          is_field = sets.is_field;
          word = sets.word;
          is_word = sets.is_word;
          put = record { fits = sets.put.fits; pasted = record { inside = omega (arith, inside, same); pasted = refl } };
        },
      );
}

-- of a context its length is seen, while the parts of a text are set
pub fields_seen : (hook : Hook) (version : Version) → IsSeen (SetsFields hook version) (λ (context : List ℕ). length context)
fields_seen hook version =
    let all = turns_seen (SetsField hook version) (λ (context : List ℕ). length context) (field_seen hook version) in
    record { keeps = λ text. all.keeps (parts 44 text); moves = λ text. all.moves (parts 44 text) }

-- of words that are texts the same is seen as of their bytes
pub texts_seen : {S V : Type 0} (step : List ℕ → S → S → Type 0) (seen : S → V)
    → IsSeen step seen → IsSeen (λ (t : String Global). step (string_bytes t)) seen
texts_seen step seen is = record { keeps = λ t. is.keeps (string_bytes t); moves = λ t. is.moves (string_bytes t) }

-- where one of the texts is refused, for its bytes make no step, they are refused in turn
pub text_refused : {S V : Type 0} (step : List ℕ → S → S → Type 0) (seen : S → V)
    → IsSeen step seen → (texts : List (String Global)) (i : ℕ) (item : String Global) (bytes : List ℕ) (first now : S) (e : WordsFault)
    → i < length texts → item ≡ get_or texts i item → bytes ≡ string_bytes item → seen now ≡ seen first
    → GivesNone (step bytes now) e
    → GivesNone (TextsInTurn step texts first) e
text_refused step seen is texts i item bytes first now e h item_is bytes_is same none =
    turn_refused (λ (t : String Global). step (string_bytes t)) seen (texts_seen step seen is) texts i item first now e h same
    (subst (λ (b : List ℕ). GivesNone (step b now) e) (bytes_is ∙ ap (λ (t : String Global). string_bytes t) item_is) none)

-- a place is of one entry
entry_once : (place : List ℕ) (m n entry other : ℕ) → NamesMapEntry place m entry → NamesMapEntry place n other → (m ≡ n) × (entry ≡ other)
entry_once place m n entry other one two =
    let once = cut_once 58 place one.number one.place two.number two.place one.splits two.splits in (
      number_once two.number m n (subst (λ (w : List ℕ). IsNumber w m) once.0 one.is_map) two.is_map,
      number_once two.place entry other (subst (λ (w : List ℕ). IsNumber w entry) once.1 one.is_entry) two.is_entry,
    )

-- the number of an entry that is there is small
entry_small : (shape : Option MapShape) (entry : ℕ) → entry < entries_in shape → entry < 2 ^ 32
entry_small None entry there = absurd (omega (arith, there))
entry_small (Some shape) entry there =
    let most : shape.entries ≤ 256 = shape.greatest_entries in
    omega (arith, there, most)

-- what names no entry sets none
pub no_entry_named : (text place value : List ℕ) (before : Arrays)
    → IsSplitAtMark 61 text place value → ((m entry : ℕ) → entry < 2 ^ 32 → ¬ NamesMapEntry place m entry)
    → (after : Arrays) → ¬ SetsEntry text before after
no_entry_named text place value before cut none after sets =
    let once = cut_once 61 text sets.place sets.value place value sets.splits cut in
    none sets.m sets.entry (entry_small (slice_get before.shapes sets.m) sets.entry sets.there)
    (subst (λ (p : List ℕ). NamesMapEntry p sets.m sets.entry) once.0 sets.names)

-- what writes no bytes sets no entry
pub no_entry_bytes : (text place value : List ℕ) (before : Arrays)
    → IsSplitAtMark 61 text place value → ((bytes : List ℕ) → decode_of value ≢ Ok bytes)
    → (after : Arrays) → ¬ SetsEntry text before after
no_entry_bytes text place value before cut none after sets =
    let once = cut_once 61 text sets.place sets.value place value sets.splits cut in
    none sets.bytes (ap decode_of (sym once.1) ∙ sets.is_bytes)

-- an entry that is not there is not set
pub no_entry_there : (text place value : List ℕ) (before : Arrays) (m entry : ℕ)
    → IsSplitAtMark 61 text place value → NamesMapEntry place m entry → ¬ HasEntry before m entry
    → (after : Arrays) → ¬ SetsEntry text before after
no_entry_there text place value before m entry cut names none after sets =
    let once = cut_once 61 text sets.place sets.value place value sets.splits cut in
    let same =
    entry_once place sets.m m sets.entry entry (subst (λ (p : List ℕ). NamesMapEntry p sets.m sets.entry) once.0 sets.names)
    names in
    none (subst (λ (k : ℕ). HasEntry before m k) same.1 (subst (λ (n : ℕ). HasEntry before n sets.entry) same.0 sets.there))

-- bytes that are too many are not set
pub no_entry_fits : (text place value bytes : List ℕ) (before : Arrays) (m entry : ℕ)
    → IsSplitAtMark 61 text place value → NamesMapEntry place m entry → decode_of value ≡ Ok bytes
    → value_size_of before m < length bytes
    → (after : Arrays) → ¬ SetsEntry text before after
no_entry_fits text place value bytes before m entry cut names is_bytes long after sets =
    let once = cut_once 61 text sets.place sets.value place value sets.splits cut in
    let same =
    entry_once place sets.m m sets.entry entry (subst (λ (p : List ℕ). NamesMapEntry p sets.m sets.entry) once.0 sets.names)
    names in
    let decoded : decode_of value ≡ Ok sets.bytes = ap decode_of (sym once.1) ∙ sets.is_bytes in
    let many : length sets.bytes ≡ length bytes = ap (λ (bs : List ℕ). length bs) (cc (decoded, is_bytes)) in
    let sizes : value_size_of before sets.m ≡ value_size_of before m = ap (λ (n : ℕ). value_size_of before n) same.0 in
    let fits : length sets.bytes ≤ value_size_of before sets.m = sets.fits in
    omega (arith, many, sizes, fits, long)

-- of maps their shapes are seen
pub entry_seen : IsSeen SetsEntry (λ (maps : Arrays). maps.shapes)
entry_seen = record {
  keeps = λ text before after sets. ap (λ (maps : Arrays). maps.shapes) sets.put;
  moves = λ text before after other sets same. (
    with_bytes other sets.m (entry_begin other sets.m sets.entry) (padded (value_size_of other sets.m) sets.bytes),
    record {
      place = sets.place;
      value = sets.value;
      splits = sets.splits;
      m = sets.m;
      entry = sets.entry;
      names = sets.names;
      bytes = sets.bytes;
      is_bytes = sets.is_bytes;
      there = rw same sets.there;
      fits = rw same sets.fits;
      put = refl;
    },
  );
}

-- what names no counter sets none
pub no_counter_named : (text before : List ℕ) → ((counter word : ℕ) → counter < 2 ^ 64 → word < 2 ^ 64 → ¬ NamesCounter text counter word)
    → (after : List ℕ) → ¬ SetsCounter text before after
no_counter_named text before none after sets =
    let below = sets.below in
    none sets.counter sets.word (omega (arith, below)) sets.fits sets.names

-- a counter that does not exist is not set
pub no_counter_there : (text before : List ℕ) (counter word : ℕ)
    → NamesCounter text counter word → 64 ≤ counter → (after : List ℕ) → ¬ SetsCounter text before after
no_counter_there text before counter word names past after sets =
    let once = cut_once 61 text sets.names.number sets.names.value names.number names.value sets.names.splits names.splits in
    let same : sets.counter ≡ counter =
    number_once names.number sets.counter counter
    (subst (λ (n : List ℕ). IsNumber n sets.counter) once.0 sets.names.is_counter) names.is_counter in
    let below = sets.below in
    omega (arith, same, below, past)

-- where one part writes no number the text names no counter
pub no_counter_number : (text number value : List ℕ) → IsSplitAtMark 61 text number value
    → ((n : ℕ) → n < 2 ^ 64 → ¬ IsNumber number n) → (counter word : ℕ) → counter < 2 ^ 64 → word < 2 ^ 64
    → ¬ NamesCounter text counter word
no_counter_number text number value cut none counter word small fits names =
    let once = cut_once 61 text names.number names.value number value names.splits cut in
    none counter small (subst (λ (n : List ℕ). IsNumber n counter) once.0 names.is_counter)

-- where the other writes none it names none either
pub no_counter_value : (text number value : List ℕ) → IsSplitAtMark 61 text number value → ((n : ℕ) → n < 2 ^ 64 → ¬ IsNumberWord value n)
    → (counter word : ℕ) → counter < 2 ^ 64 → word < 2 ^ 64
    → ¬ NamesCounter text counter word
no_counter_value text number value cut none counter word small fits names =
    let once = cut_once 61 text names.number names.value number value names.splits cut in
    none word fits (subst (λ (v : List ℕ). IsNumberWord v word) once.1 names.is_word)

-- every state of the counters is as good as another
pub counter_seen : IsSeen {V = ℕ} SetsCounter (λ (_ : List ℕ). 0)
counter_seen = record {
  keeps = λ text before after sets. refl;
  moves = λ text before after other sets same. (
    slice_set other sets.counter sets.word,
    record { counter = sets.counter; word = sets.word; names = sets.names; below = sets.below; fits = sets.fits; put = refl },
  );
}

-- where one part writes no number the text names no entry
pub no_entry_map : (text number place : List ℕ) → IsSplitAtMark 58 text number place → ((n : ℕ) → n < 2 ^ 64 → ¬ IsNumber number n)
    → (m entry : ℕ) → entry < 2 ^ 32
    → ¬ NamesMapEntry text m entry
no_entry_map text number place cut none m entry small names =
    let once = cut_once 58 text names.number names.place number place names.splits cut in
    none m names.fits (subst (λ (n : List ℕ). IsNumber n m) once.0 names.is_map)

-- where the other writes none it names none either
pub no_entry_number : (text number place : List ℕ) → IsSplitAtMark 58 text number place → ((n : ℕ) → n < 2 ^ 64 → ¬ IsNumber place n)
    → (m entry : ℕ) → entry < 2 ^ 32
    → ¬ NamesMapEntry text m entry
no_entry_number text number place cut none m entry small names =
    let once = cut_once 58 text names.number names.place number place names.splits cut in
    none entry (omega (arith, small)) (subst (λ (p : List ℕ). IsNumber p entry) once.1 names.is_entry)

-- a text names no entry where the entry's number is not of 32 bits
pub no_entry_small : (text number place : List ℕ) (wide : ℕ) → IsSplitAtMark 58 text number place → IsNumber place wide
    → 2 ^ 32 ≤ wide → (m entry : ℕ) → entry < 2 ^ 32
    → ¬ NamesMapEntry text m entry
no_entry_small text number place wide cut is past m entry small names =
    let once = cut_once 58 text names.number names.place number place names.splits cut in
    let same : entry ≡ wide = number_once place entry wide (subst (λ (p : List ℕ). IsNumber p entry) once.1 names.is_entry) is in
    omega (arith, same, small, past)

-- a text without a colon names no entry
pub no_entry_colon : (text : List ℕ) → IsFreeOf 58 text → (m entry : ℕ) → entry < 2 ^ 32 → ¬ NamesMapEntry text m entry
no_entry_colon text free m entry small names = free_cut 58 text names.number names.place free names.splits

-- a text without `=` names no counter
pub no_counter_uncut : (text : List ℕ) → IsFreeOf 61 text → (counter word : ℕ) → counter < 2 ^ 64 → word < 2 ^ 64
    → ¬ NamesCounter text counter word
no_counter_uncut text free counter word small fits names = free_cut 61 text names.number names.value free names.splits

-- where a part writes no number there is no pair of the two
pub no_counter_zip : (text number value : List ℕ) (n w : Option ℕ)
    → IsSplitAtMark 61 text number value → IfNone n ((k : ℕ) → k < 2 ^ 64 → ¬ IsNumber number k)
    → IfNone w ((k : ℕ) → k < 2 ^ 64 → ¬ IsNumberWord value k)
    → IfNone (option_zip n w) ((counter word : ℕ) → counter < 2 ^ 64 → word < 2 ^ 64 → ¬ NamesCounter text counter word)
no_counter_zip text number value None w cut none other = no_counter_number text number value cut none
no_counter_zip text number value (Some n) None cut none other = no_counter_value text number value cut other
no_counter_zip text number value (Some n) (Some w) cut none other = tt
