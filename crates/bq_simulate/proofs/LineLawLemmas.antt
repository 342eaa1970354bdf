-- The laws of the lines: the line that asks for an event or for a machine is one whole line, and is read as exactly that.
use Rattle.std.proofs.Common.{◌≡◌, ℕ, ◌-◌, List, [], ◌∷◌, length, refl, ◌∙◌, true, false, eqb, arith, zero, suc, slice_index}
use Rattle.std.specs.List.{AllByRecursion, list_all}
use Rattle.std.proofs.lemmas.Bool.{and_parts}
use Rattle.std.proofs.lemmas.Bool.Decides.{nat_tests}
use Rattle.std.proofs.lemmas.List.Elements.{All-from_recursion}
use Rattle.bq_lines.specs.Bytes.{is_allowed}
use Rattle.bq_simulate.specs.Spelling.{asking_line, event_words, machine_line}
use Rattle.bq_simulate.specs.LineLaws.{AreLines, EventsAreRead, MachinesAreRead, IsWholeLine}
use Rattle.bq_simulate.proofs.EventWordLemmas.{reading-spaced, plain_words, room_words, words_read, machine_words, plain_machine, room_machine, machine_reads}
use Rattle.bq_simulate.proofs.PlainWordLemmas.{allowed-spaced}

-- the line that asks for an event is read as exactly that
pub events_are_read : EventsAreRead
events_are_read image event can fits =
    reading-spaced (event_words image event) (plain_words image event can fits) (room_words image event can fits)
    ∙ words_read image event can fits

-- the line that asks for a machine is read as exactly that
pub machines_are_read : MachinesAreRead
machines_are_read discipline size =
    reading-spaced (machine_words discipline size) (plain_machine discipline size) (room_machine discipline size) ∙ machine_reads discipline size

-- what each allowed byte is, each byte of a line of such is
of_each : (P : ℕ → Type 0) → ((b : ℕ) → is_allowed b ≡ true → P b) → (line : List ℕ) → list_all is_allowed line ≡ true
    → AllByRecursion P line
of_each P along [] h = tt
of_each P along (b ∷ line) h =
    let parts = and_parts (is_allowed b) (list_all is_allowed line) h in (along b parts.0, of_each P along line parts.1)

-- a byte that is allowed in a line is no line feed and no carriage return:
no_feed : (b : ℕ) → is_allowed b ≡ true → eqb b 10 ≡ false
no_feed b h = grind (arith, nat_tests)

no_return : (b : ℕ) → is_allowed b ≡ true → eqb b 13 ≡ false
no_return b h = grind (arith, nat_tests)

-- a line of which no byte is a carriage return has none at any place
nowhere : (line : List ℕ) (k : ℕ) → AllByRecursion (λ b. eqb b 13 ≡ false) line → eqb (slice_index line k) 13 ≡ false
nowhere [] k h = refl
nowhere (b ∷ line) zero h = h.0
nowhere (b ∷ line) (suc k) h = nowhere line k h.1

-- a line of allowed bytes is one line, whatever follows it
pub allowed_whole : (line : List ℕ) → list_all is_allowed line ≡ true → IsWholeLine line
allowed_whole line h = record {
  one = All-from_recursion (λ b. eqb b 10 ≡ false) line (of_each (λ b. eqb b 10 ≡ false) no_feed line h);
  same = rw (nowhere line (length line - 1) (of_each (λ b. eqb b 13 ≡ false) no_return line h)) refl;
}

-- the text that asks for an event or for a machine is one whole line
pub are_lines : AreLines
are_lines = record {
  events = λ image event can fits.
      allowed_whole (asking_line image event) (allowed-spaced (event_words image event) (plain_words image event can fits));
  machines = λ discipline size. allowed_whole (machine_line discipline size) (allowed-spaced (machine_words discipline size) (plain_machine discipline size));
}
