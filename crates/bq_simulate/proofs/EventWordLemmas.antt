-- What the words of an event and of a machine ask for.
use Rattle.std.proofs.Common.{◌≡◌, ℕ, ◌+◌, ◌^◌, ◌<◌, ◌≤◌, List, [], ◌∷◌, length, refl, ap, ◌∙◌, true, false, ltb, arith, lit≤, Option, Some, None, codes, decimal, option_and_then}
use Rattle.std.specs.Prelude.{◌&&◌, option_map}
use Rattle.std.specs.List.{AllByRecursion, list_all}
use Rattle.std.proofs.lemmas.Bool.{and_parts}
use Rattle.std.proofs.lemmas.Bool.Decides.{nat_tests}
use Rattle.hex.specs.Hex.{lower_digits}
use Rattle.hex.proofs.HexLemmas.{length-encode_with}
use Rattle.bq_hooks.specs.Hooks.{hook_word}
use Rattle.bq_hooks.specs.declared.hook.Hook.{Hook}
use Rattle.bq_hooks.specs.declared.hook.Hook.TheVariants as hooks
use Rattle.bq_hooks.proofs.HookLemmas.{hook_of-hook_word}
use Rattle.bq_parts.specs.declared.event.Event.{Event}
use Rattle.bq_parts.specs.declared.event.Event.TheVariants.{Admit, Retire, Draw, Install, BeginWake, EndWake, Drain, Tick, Block, Pull}
use Rattle.bq_words.specs.Sizes.{processors_in, discipline_named, discipline_word, size_numbered}
use Rattle.bq_words.specs.declared.discipline_name.DisciplineName.{DisciplineName}
use Rattle.bq_words.specs.declared.discipline_name.DisciplineName.TheVariants.{Cfs, Eevdf}
use Rattle.bq_words.specs.declared.processor_count.ProcessorCount.{ProcessorCount}
use Rattle.bq_words.specs.declared.processor_count.ProcessorCount.TheVariants.{One, Two, Four, Eight, Sixteen, ThirtyTwo, SixtyFour}
use Rattle.bq_words.proofs.SizeLemmas.{processors_in-few}
use Rattle.bq_lines.specs.Keywords.{keyword_word}
use Rattle.bq_lines.specs.declared.keyword.Keyword.{Keyword}
use Rattle.bq_lines.specs.declared.keyword.Keyword.TheVariants as keywords
use Rattle.bq_lines.specs.Lines.{reading_of, reading_of_words, reading_of_command, install_or_load as reads_install}
use Rattle.bq_words.specs.Quantities.{size_in_word}
use Rattle.bq_lines.specs.declared.command.LineCommand.{LineCommand}
use Rattle.bq_lines.specs.declared.command.LineCommand.TheVariants.{Does, Machine}
use Rattle.bq_lines.specs.declared.command.LineReading.TheVariants.{Asks}
use Rattle.bq_simulate.specs.Spelling.{HasFittingNumbers, event_words, image_word, spaced_words}
use Rattle.bq_simulate.specs.LineLaws.{CanStandInLine, event_command, install_asked}
use Rattle.bq_simulate.proofs.HexWordLemmas.{plain_hex, hex_not_none}
use Rattle.bq_simulate.proofs.NumberWordLemmas.{plain_decimal, plain_signed, short_decimal, short_signed, decimal_of-decimal, processor_of-decimal, task_of-decimal, mask_of-decimal, nice_of-signed}
use Rattle.bq_simulate.proofs.PlainWordLemmas.{IsPlain, is_plain, room, words-spaced, allowed-spaced, length-spaced}

-- a line of plain words that is short enough says what its words say
pub reading-spaced : (ws : List (List ℕ)) → AllByRecursion IsPlain ws → room ws ≤ 131072
    → reading_of (spaced_words ws) ≡ reading_of_words ws
unfolding reading_of
reading-spaced ws plain fits =
    let most = length-spaced ws in
    let short : ltb 131072 (length (spaced_words ws)) ≡ false = grind (arith, nat_tests) in
    rw (short, allowed-spaced ws plain) (ap reading_of_words (words-spaced ws plain))

-- a word that is written out
known : (w : List ℕ) → (ltb 0 (length w) && list_all is_plain w) ≡ true → IsPlain w
known w h =
    let parts = and_parts (ltb 0 (length w)) (list_all is_plain w) h in
    record { some = let long = parts.0 in grind (arith, nat_tests); each = parts.1 }

-- keywords and the names of hooks are plain words, and those of hooks are short:
plain_keyword : (keyword : Keyword) → IsPlain (keyword_word keyword)
plain_keyword keywords.Install = known _ refl
plain_keyword keywords.Machine = known _ refl
plain_keyword keywords.Admit = known _ refl
plain_keyword keywords.Retire = known _ refl
plain_keyword keywords.Draw = known _ refl
plain_keyword keywords.Begin = known _ refl
plain_keyword keywords.End = known _ refl
plain_keyword keywords.Wake = known _ refl
plain_keyword keywords.Drain = known _ refl
plain_keyword keywords.Tick = known _ refl
plain_keyword keywords.Block = known _ refl
plain_keyword keywords.Pull = known _ refl
plain_keyword keywords.Show = known _ refl
plain_keyword keywords.Counter = known _ refl

plain_hook : (hook : Hook) → IsPlain (hook_word hook)
plain_hook hooks.Place = known (codes "place") refl
plain_hook hooks.Preempt = known (codes "preempt") refl
plain_hook hooks.Pull = known (codes "pull") refl

short_hook : (hook : Hook) → length (hook_word hook) ≤ 7
short_hook hooks.Place = lit≤ tt
short_hook hooks.Preempt = lit≤ tt
short_hook hooks.Pull = lit≤ tt

-- the word of an image that can stand in a line is plain, and a line has room for it:
plain_image : (image : Option (List ℕ)) → CanStandInLine image → IsPlain (image_word image)
plain_image None h = known (codes "none") refl
plain_image (Some bytes) h = plain_hex bytes h.each h.some

short_image : (image : Option (List ℕ)) → CanStandInLine image → length (image_word image) ≤ 130944
short_image None h = lit≤ tt
short_image (Some bytes) h = let most = h.room in let len = length-encode_with lower_digits bytes in omega arith

-- the words of an event are plain
pub plain_words : (image : Option (List ℕ)) (event : Event) → CanStandInLine image → HasFittingNumbers event
    → AllByRecursion IsPlain (event_words image event)
plain_words image (Admit task nice mask slice) can h = (
  plain_keyword keywords.Admit,
  (plain_decimal task (omega arith), (plain_signed nice h.1, (plain_decimal mask h.2, (plain_decimal slice h.3, tt)))),
)
plain_words image (Retire task) can h = (plain_keyword keywords.Retire, (plain_decimal task (omega arith), tt))
plain_words image Draw can h = (plain_keyword keywords.Draw, tt)
plain_words image (Install c hook generation policy) can h = (
  plain_keyword keywords.Install,
  (plain_decimal c (omega arith), (plain_decimal generation h.1, (plain_hook hook, (plain_image image can, tt)))),
)
plain_words image (BeginWake c task) can h =
    (plain_keyword keywords.Begin, (plain_decimal c (omega arith), (plain_decimal task (omega arith), tt)))
plain_words image (EndWake c now) can h = (plain_keyword keywords.End, (plain_decimal c (omega arith), (plain_decimal now h.1, tt)))
plain_words image (Drain c now) can h = (plain_keyword keywords.Drain, (plain_decimal c (omega arith), (plain_decimal now h.1, tt)))
plain_words image (Tick c now) can h = (plain_keyword keywords.Tick, (plain_decimal c (omega arith), (plain_decimal now h.1, tt)))
plain_words image (Block c now) can h = (plain_keyword keywords.Block, (plain_decimal c (omega arith), (plain_decimal now h.1, tt)))
plain_words image (Pull c from now) can h =
    (plain_keyword keywords.Pull, (plain_decimal c (omega arith), (plain_decimal from (omega arith), (plain_decimal now h.2, tt))))

-- two numbers after a name
two_numbers : (a b : ℕ) → a < 2 ^ 64 → b < 2 ^ 64 → length (decimal a) + (1 + (length (decimal b) + (1 + 0))) ≤ 42
two_numbers a b h k = let first = short_decimal a h in let second = short_decimal b k in omega arith

-- a line has room for them
pub room_words : (image : Option (List ℕ)) (event : Event) → CanStandInLine image → HasFittingNumbers event
    → room (event_words image event) ≤ 131072
room_words image (Admit task nice mask slice) can h =
    let t = short_decimal task (omega arith) in
    let n = short_signed nice h.1 in let m = short_decimal mask h.2 in let s = short_decimal slice h.3 in omega arith
room_words image (Retire task) can h = let t = short_decimal task (omega arith) in omega arith
room_words image Draw can h = lit≤ tt
room_words image (Install c hook generation policy) can h =
    let numbers = two_numbers c generation (omega arith) h.1 in let word = short_hook hook in let hex = short_image image can in omega arith
room_words image (BeginWake c task) can h = let numbers = two_numbers c task (omega arith) (omega arith) in omega arith
room_words image (EndWake c now) can h = let numbers = two_numbers c now (omega arith) h.1 in omega arith
room_words image (Drain c now) can h = let numbers = two_numbers c now (omega arith) h.1 in omega arith
room_words image (Tick c now) can h = let numbers = two_numbers c now (omega arith) h.1 in omega arith
room_words image (Block c now) can h = let numbers = two_numbers c now (omega arith) h.1 in omega arith
room_words image (Pull c from now) can h =
    let numbers = two_numbers c from (omega arith) (omega arith) in let n = short_decimal now h.2 in omega arith

-- what some words ask for where each is what it should be
of_one : {A : Type 0} (f : A → LineCommand) (a : Option A) (x : A) → a ≡ Some x → reading_of_command (option_map (λ x. f x) a) ≡ Asks (f x)
of_one f a x ea = rw ea refl

of_two : {A B : Type 0} (f : A → B → LineCommand) (a : Option A) (b : Option B) (x : A) (y : B) → a ≡ Some x → b ≡ Some y
    → reading_of_command (option_map (λ (w : A × B). f w.0 w.1) (option_and_then (λ x. option_map (λ y. (x, y)) b) a)) ≡ Asks (f x y)
of_two f a b x y ea eb = rw (ea, eb) refl

of_three : {A B C : Type 0} (f : A → B → C → LineCommand) (a : Option A) (b : Option B) (c : Option C) (x : A) (y : B) (z : C)
    → a ≡ Some x → b ≡ Some y → c ≡ Some z
    → reading_of_command
    (option_map (λ (w : A × B × C). f w.0 w.1 w.2) (option_and_then (λ x. option_and_then (λ y. option_map (λ z. (x, y, z)) c) b) a))
    ≡ Asks (f x y z)
of_three f a b c x y z ea eb ec = rw (ea, eb, ec) refl

of_four : {A B C D : Type 0} (f : A → B → C → D → LineCommand) (a : Option A) (b : Option B) (c : Option C)
    (d : Option D) (x : A) (y : B) (z : C) (w : D)
    → a ≡ Some x → b ≡ Some y → c ≡ Some z → d ≡ Some w
    → reading_of_command (option_map (λ (w : A × B × C × D). f w.0 w.1 w.2 w.3)
    (option_and_then (λ x. option_and_then (λ y. option_and_then (λ z. option_map (λ w. (x, y, z, w)) d) c) b) a))
    ≡ Asks (f x y z w)
of_four f a b c d x y z w ea eb ec ed = rw (ea, eb, ec, ed) refl

-- an install that brings an image, or `none`
reads_image : (image : Option (List ℕ)) (c generation : ℕ) (hook : Hook)
    → CanStandInLine image
    → reads_install (c, generation, hook, image_word image) ≡ install_asked image c hook generation
reads_image None c generation hook can = refl
reads_image (Some bytes) c generation hook can = rw (hex_not_none bytes can.each) refl

-- the words of a processor, a hook, a generation and an image ask for an install of it
of_install : (a b : Option ℕ) (d : Option Hook) (word : List ℕ) (c generation : ℕ) (hook : Hook) (command : LineCommand)
    → a ≡ Some c → b ≡ Some generation → d ≡ Some hook → reads_install (c, generation, hook, word) ≡ command
    → reading_of_command (option_map reads_install (option_and_then (λ c. option_and_then (λ g. option_map (λ h. (c, g, h, word)) d) b) a))
    ≡ Asks command
of_install a b d word c generation hook command ea eb ed is = rw (ea, eb, ed) (ap Asks is)

-- the words of an event ask for it
pub words_read : (image : Option (List ℕ)) (event : Event) → CanStandInLine image → HasFittingNumbers event
    → reading_of_words (event_words image event) ≡ Asks (event_command image event)
words_read image (Admit task nice mask slice) can h =
    of_four (λ t n m s. Does (Admit t n m s)) _ _ _ _ task nice mask slice (task_of-decimal task h.0)
    (nice_of-signed nice h.1) (mask_of-decimal mask h.2) (decimal_of-decimal slice h.3)
words_read image (Retire task) can h = of_one (λ t. Does (Retire t)) _ task (task_of-decimal task h)
words_read image Draw can h = refl
words_read image (Install c hook generation policy) can h =
    of_install _ _ _ (image_word image) c generation hook _ (processor_of-decimal c h.0) (decimal_of-decimal generation h.1)
    (hook_of-hook_word hook) (reads_image image c generation hook can)
words_read image (BeginWake c task) can h =
    of_two (λ c t. Does (BeginWake c t)) _ _ c task (processor_of-decimal c h.0) (task_of-decimal task h.1)
words_read image (EndWake c now) can h =
    of_two (λ c t. Does (EndWake c t)) _ _ c now (processor_of-decimal c h.0) (decimal_of-decimal now h.1)
words_read image (Drain c now) can h = of_two (λ c t. Does (Drain c t)) _ _ c now (processor_of-decimal c h.0) (decimal_of-decimal now h.1)
words_read image (Tick c now) can h = of_two (λ c t. Does (Tick c t)) _ _ c now (processor_of-decimal c h.0) (decimal_of-decimal now h.1)
words_read image (Block c now) can h = of_two (λ c t. Does (Block c t)) _ _ c now (processor_of-decimal c h.0) (decimal_of-decimal now h.1)
words_read image (Pull c from now) can h =
    of_three (λ c s t. Does (Pull c s t)) _ _ _ c from now (processor_of-decimal c h.0) (processor_of-decimal from h.1)
    (decimal_of-decimal now h.2)

-- the words of a machine
abbrev pub machine_words : DisciplineName → ProcessorCount → List (List ℕ)
machine_words discipline size = keyword_word keywords.Machine ∷ discipline_word discipline ∷ decimal (processors_in size) ∷ []

-- the word of a discipline is plain, and has at most five bytes:
plain_discipline : (discipline : DisciplineName) → IsPlain (discipline_word discipline)
plain_discipline Cfs = known (codes "cfs") refl
plain_discipline Eevdf = known (codes "eevdf") refl

short_discipline : (discipline : DisciplineName) → length (discipline_word discipline) ≤ 5
short_discipline Cfs = lit≤ tt
short_discipline Eevdf = lit≤ tt

-- the words of a machine are plain
pub plain_machine : (discipline : DisciplineName) (size : ProcessorCount) → AllByRecursion IsPlain (machine_words discipline size)
plain_machine discipline size =
    let small = processors_in-few size in
    (plain_keyword keywords.Machine, (plain_discipline discipline, (plain_decimal (processors_in size) (omega arith), tt)))

-- a line has room for the words of a machine
pub room_machine : (discipline : DisciplineName) (size : ProcessorCount) → room (machine_words discipline size) ≤ 131072
room_machine discipline size =
    let small = processors_in-few size in
    let number = short_decimal (processors_in size) (omega arith) in
    let word = short_discipline discipline in
    omega arith

-- the word of a discipline is read as that discipline
discipline_named-word : (discipline : DisciplineName) → discipline_named (discipline_word discipline) ≡ Some discipline
discipline_named-word Cfs = refl
discipline_named-word Eevdf = refl

-- the size of a machine is read back from its number of processors, and from the word for it:
size_of-number : (size : ProcessorCount) → size_numbered (processors_in size) ≡ Some size
size_of-number One = refl
size_of-number Two = refl
size_of-number Four = refl
size_of-number Eight = refl
size_of-number Sixteen = refl
size_of-number ThirtyTwo = refl
size_of-number SixtyFour = refl

size_of-decimal : (size : ProcessorCount) → size_in_word (decimal (processors_in size)) ≡ Some size
size_of-decimal size =
    let small = processors_in-few size in
    ap (option_and_then size_numbered) (processor_of-decimal (processors_in size) (omega arith)) ∙ size_of-number size

-- the words of a machine ask for it
pub machine_reads : (discipline : DisciplineName) (size : ProcessorCount) → reading_of_words (machine_words discipline size) ≡ Asks (Machine discipline size)
machine_reads discipline size = of_two (λ r s. Machine r s) _ _ discipline size (discipline_named-word discipline) (size_of-decimal size)
