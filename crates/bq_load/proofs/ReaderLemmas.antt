-- What a reader stands for, and what it answers.
use Rattle.std.proofs.Common.{◌≡◌, ℕ, ◌+◌, ◌*◌, ◌<◌, List, ◌++◌, length, Option, Some, None, Ok, Err, refl, sym, ap, subst, ◌∙◌, inl, inr, append_assoc, arith, length-append}
use Rattle.bq_insn.specs.declared.fault.DecodeCause.TheVariants.{Length}
use Rattle.bq_load.specs.declared.fault.LoadFault.{LoadFault}
use Rattle.bq_load.specs.declared.fault.LoadFault.TheVariants as fault
use Rattle.bq_load.specs.Layout.{Header, header_bytes, IsHeader}
use Rattle.bq_load.specs.Fields.{Headed}
use Rattle.bq_load.specs.Faults.{IsCut, HasMore, HasFaultyProgram}
use Rattle.bq_load.specs.Feeding.{Fed, HasFailed, HasTooManySlots, Holds, stands, StandsFor, FeedsPiece}
use Rattle.bq_load.specs.Headers.{with_shapes}
use Rattle.bq_load.specs.Laws.{AreBytes}
use Rattle.bq_load.specs.Reading.{Spelled, header_at}
use Rattle.bq_load.proofs.HeaderLemmas.{header_ok}
use Rattle.bq_load.proofs.SpelledHeaderLemmas.{header_again}
use Rattle.bq_load.proofs.LawLemmas.{one_fault}
use Rattle.bq_load.proofs.FramingLemmas.{bad_length_of}
use Rattle.bq_load.proofs.JudgingLemmas.{bad_stays, one_header}

-- a fault that stays does so whatever follows
pub failed_stays : (bytes more : List ℕ) (f : LoadFault) → HasFailed bytes f → HasFailed (bytes ++ more) f
failed_stays bytes more fault.Magic h = (tt, bad_stays bytes more fault.Magic h.1)
failed_stays bytes more fault.Version h = (tt, bad_stays bytes more fault.Version h.1)
failed_stays bytes more fault.Hook h = (tt, bad_stays bytes more fault.Hook h.1)
failed_stays bytes more fault.Shape h = (tt, bad_stays bytes more fault.Shape h.1)
failed_stays bytes more fault.Rest h = (
  tt,
  record {
    header = h.1.header;
    rest = h.1.rest ++ more;
    good = h.1.good;
    bytes_are = ap (λ (x : List ℕ). x ++ more) h.1.bytes_are ∙ append_assoc (header_bytes h.1.header) h.1.rest more;
    more = omega (arith, h.1.more, length-append h.1.rest more);
  },
)
failed_stays bytes more fault.Cut h = absurd h.0
failed_stays bytes more (fault.Decode slot cause) h = absurd h.0
failed_stays bytes more (fault.Refused slot cause) h = absurd h.0
failed_stays bytes more fault.OutOfMemory h = absurd h.0

-- a reader that has failed
failed_of : (fed : Fed) (bytes : List ℕ) (f : LoadFault) → fed.failed ≡ Some f → StandsFor fed bytes → HasFailed bytes f
failed_of fed bytes f e h = subst (λ (o : Option LoadFault). stands fed.held fed.past o bytes) e h

-- a reader that has answered a fault stands for bytes that have this fault
stands_failed : (fed : Fed) (bytes : List ℕ) (f : LoadFault) → fed.failed ≡ Some f → HasFailed bytes f → StandsFor fed bytes
stands_failed fed bytes f e h = subst (λ (o : Option LoadFault). stands fed.held fed.past o bytes) (sym e) h

-- a reader that has failed stands for any further piece too, and stays as it is
pub failed_goes_on : (fed : Fed) (piece : List ℕ) (f : LoadFault) → fed.failed ≡ Some f → FeedsPiece fed piece fed
failed_goes_on fed piece f e bytes h = stands_failed fed (bytes ++ piece) f e (failed_stays bytes piece f (failed_of fed bytes f e h))

-- the fault that a reader has answered is the only one that stays, of its bytes and any further piece
pub failed_exact : (fed : Fed) (piece : List ℕ) (f : LoadFault)
    → fed.failed ≡ Some f → (bytes : List ℕ) (g : LoadFault) → StandsFor fed bytes → AreBytes (bytes ++ piece)
    → HasFailed (bytes ++ piece) g
    → f ≡ g
failed_exact fed piece f e bytes g h fits d =
    one_fault (bytes ++ piece) f g fits (failed_stays bytes piece f (failed_of fed bytes f e h)).1 d.1

-- a reader that has not
none_of : (o : Option LoadFault) → ((f : LoadFault) → o ≡ Some f → ⊥) → o ≡ None
none_of None h = refl
none_of (Some f) h = absurd (h f refl)

-- a reader that has not failed holds the bytes that it stands for, or has counted those past what it holds
pub not_failed_holds : (fed : Fed) (held : List ℕ) (past : ℕ) (failed : Option LoadFault) (bytes : List ℕ)
    → record { held = held; past = past; failed = failed } ≡ fed → ((f : LoadFault) → failed ≡ Some f → ⊥)
    → StandsFor fed bytes
    → Holds held past bytes
not_failed_holds fed held past failed bytes view not_failed h =
    let moved : StandsFor (record { held = held; past = past; failed = failed }) bytes =
    subst (λ (x : Fed). StandsFor x bytes) (sym view) h in
    subst (λ (o : Option LoadFault). stands held past o bytes) (none_of failed not_failed) moved

-- ---- a program that is too long

-- where bytes were counted beyond those held, a program that is too long is held
pub past_is_too_long : (held bytes : List ℕ) (past : ℕ) → 0 < past → Holds held past bytes → HasTooManySlots held
past_is_too_long held bytes past some h = elim h.only [ inl none ↦ absurd (omega arith) | inr l ↦ l ]

-- where bytes were counted beyond those held, reading the header of those does not fail
pub past_header_is_read : (held bytes : List ℕ) (past : ℕ) (f : LoadFault) → 0 < past → Holds held past bytes → header_at held ≡ Err f → ⊥
past_header_is_read held bytes past f some h e =
    let l = past_is_too_long held bytes past some h in
    let ok = ap header_at l.held_is ∙ header_again l.header l.part l.good in
    absurd cc

-- the header of all bytes, and what stands behind it
record HasTail (bytes : List ℕ) (slots past : ℕ) (part : List ℕ) : Type 0 where
  header : Header
  tail : List ℕ
  good : IsHeader header
  slots_are : header.slots ≡ slots
  over : 4096 < slots
  bytes_are : bytes ≡ header_bytes header ++ tail
  long : length tail ≡ length part + past

-- a header that a reader holds, with bytes counted behind, is the header of all the bytes
tail_of : (held bytes : List ℕ) (past : ℕ) (s : Spelled) (part : List ℕ)
    → AreBytes held → header_at held ≡ Ok (s, part) → 0 < past → Holds held past bytes
    → HasTail bytes s.slots past part
tail_of held bytes past s part fits e some h =
    let l = past_is_too_long held bytes past some h in
    let there = header_ok held (s, part) fits e in
    let header = with_shapes s there.shapes in
    let same = one_header l.header header l.part part l.good there.good (sym l.held_is ∙ there.bytes_are) in
    let slots : l.header.slots ≡ s.slots = ap (λ (k : Header). k.slots) same.0 in
    record {
      header = header;
      tail = part ++ h.rest;
      good = there.good;
      slots_are = refl;
      over = omega (arith, l.over, slots);
      bytes_are = h.bytes_are ∙ ap (λ (x : List ℕ). x ++ h.rest) there.bytes_are ∙ append_assoc (header_bytes header) part h.rest;
      long = omega (arith, length-append part h.rest, h.counted);
    }

-- where the program's bytes, held and counted, are fewer than its slots need, the bytes are cut
pub past_cut : (held bytes : List ℕ) (past : ℕ) (s : Spelled) (part : List ℕ)
    → AreBytes held → header_at held ≡ Ok (s, part) → 0 < past → length part + past < 8 * s.slots → Holds held past bytes
    → IsCut bytes
past_cut held bytes past s part fits e some short h =
    let t = tail_of held bytes past s part fits e some h in
    record {
      front = Headed t.header;
      part = t.tail;
      good = t.good;
      bytes_are = t.bytes_are;
      short = omega (arith, short, t.long, t.slots_are);
    }

-- where the program's bytes, held and counted, are more than its slots need, bytes stand after the end
pub past_more : (held bytes : List ℕ) (past : ℕ) (s : Spelled) (part : List ℕ)
    → AreBytes held → header_at held ≡ Ok (s, part) → 0 < past → 8 * s.slots < length part + past → Holds held past bytes
    → HasMore bytes
past_more held bytes past s part fits e some long h =
    let t = tail_of held bytes past s part fits e some h in
    record { header = t.header; rest = t.tail; good = t.good; bytes_are = t.bytes_are; more = omega (arith, long, t.long, t.slots_are) }

-- where the program's bytes, held and counted, are as many as its slots need, its length is the fault
pub past_length : (held bytes : List ℕ) (past : ℕ) (s : Spelled) (part : List ℕ)
    → AreBytes held → header_at held ≡ Ok (s, part) → 0 < past → length part + past ≡ 8 * s.slots → Holds held past bytes
    → HasFaultyProgram bytes 0 Length
past_length held bytes past s part fits e some whole h =
    let t = tail_of held bytes past s part fits e some h in
    let all : length t.tail ≡ 8 * t.header.slots = omega (arith, whole, t.long, t.slots_are) in
    record {
      header = t.header;
      program = t.tail;
      framed = record { header = t.good; whole = all; bytes_are = t.bytes_are };
      faulty = (refl, bad_length_of (length t.tail) t.header.slots all (omega (arith, t.over, t.slots_are)));
    }
