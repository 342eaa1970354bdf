-- What a piece brings: by the first 44 bytes the header of all the bytes is known.
use Rattle.std.proofs.Common.{◌≡◌, ◌≢◌, ℕ, zero, suc, ◌+◌, ◌-◌, ◌*◌, ◌^◌, ◌<◌, ◌≤◌, List, [], ◌∷◌, ◌++◌, length, take, drop, min, Result, Ok, Err, refl, sym, ap, subst, ◌∙◌, inl, inr, append_assoc, arith, length-append, length-drop}
use Rattle.std.specs.Prelude.{OnOk}
use Rattle.std.specs.Int.{w32, to_le_bytes}
use Rattle.std.proofs.lemmas.Bool.{cases_lt}
use Rattle.std.proofs.lemmas.List.{take-append-drop, length-take, take_all, take-append-le, nil_from_length, append-nil}
use Rattle.bq_load.specs.declared.fault.LoadFault.{LoadFault}
use Rattle.bq_load.specs.declared.fault.LoadFault.TheVariants as fault
use Rattle.bq_load.specs.Layout.{shapes_bytes, image_opening, Header, header_bytes, IsHeader}
use Rattle.bq_load.specs.Fields.{Front, Nothing, Marked, Versioned, Hooked, Mapped, Headed, AreGoodFields, front_bytes, next_width, IsBadNext}
use Rattle.bq_load.specs.Faults.{HasBadField, IsLoadFault}
use Rattle.bq_load.specs.Feeding.{IsFinal, HasFailed, HasTooManySlots, Holds}
use Rattle.bq_load.specs.Headers.{with_shapes, HasHeader}
use Rattle.bq_load.specs.Laws.{AreBytes}
use Rattle.bq_load.specs.Reading.{Spelled, header_at, frame_at}
use Rattle.bq_load.proofs.ReadingLemmas.{ok_is}
use Rattle.bq_load.proofs.FieldLemmas.{AreBytes-front}
use Rattle.bq_load.proofs.HeaderLemmas.{length-shapes_bytes, IsRefused, header_ok, header_err, refused_is, bad_field, no_cut, no_decode}
use Rattle.bq_load.proofs.SpelledHeaderLemmas.{spelled, header_again}
use Rattle.bq_load.proofs.FaultLemmas.{IsFound, fault_again, frame_short}
use Rattle.bq_load.proofs.LawLemmas.{one_fault, not_framed}
use Rattle.bq_load.proofs.UniqueLemmas.{one_spelled, frame_again}
use Rattle.bq_load.proofs.LoadLemmas.{no_refusal}
use Rattle.bq_load.proofs.FramingLemmas.{no_memory}

-- ---- lists

-- what stands behind a whole front
pub take_past : (n : ℕ) (a b : List ℕ) → length a ≤ n → take n (a ++ b) ≡ a ++ take (n - length a) b
take_past n [] b h = ap (λ (m : ℕ). take m b) (let e : n ≡ n - 0 = omega arith in e)
take_past zero (x ∷ a) b h = absurd (omega arith)
take_past (suc n) (x ∷ a) b h =
    let e : n - length a ≡ suc n - suc (length a) = omega arith in
    ap (λ (l : List ℕ). x ∷ l) (take_past n a b (omega arith)) ∙ ap (λ (m : ℕ). x ∷ (a ++ take m b)) e

-- two lists of bytes, one after the other, are bytes
pub AreBytes-append : (a b : List ℕ) → AreBytes a → AreBytes b → AreBytes (a ++ b)
AreBytes-append [] b ha hb i = hb i
AreBytes-append (x ∷ a) b ha hb zero = ha 0
AreBytes-append (x ∷ a) b ha hb (suc i) = AreBytes-append a b (λ j. ha (suc j)) hb i

-- the first few of some bytes are bytes
pub AreBytes-take : (n : ℕ) (a : List ℕ) → AreBytes a → AreBytes (take n a)
AreBytes-take n a h = AreBytes-front (take n a) (drop n a) (subst AreBytes (sym (take-append-drop n a)) h)

-- ---- headers

-- a header has twelve bytes, and four for each shape
pub length-header_bytes : (h : Header) → length (header_bytes h) ≡ 12 + 4 * length h.shapes
length-header_bytes h =
    let opened : length (image_opening h.version h.hook (length h.shapes)) ≡ 8 = refl in
    let slots : length (to_le_bytes w32 h.slots) ≡ 4 = refl in
    omega (
      arith,
      opened,
      slots,
      length-append (image_opening h.version h.hook (length h.shapes)) (shapes_bytes h.shapes ++ to_le_bytes w32 h.slots),
      length-append (shapes_bytes h.shapes) (to_le_bytes w32 h.slots),
      length-shapes_bytes h.shapes,
    )

-- a good header has at most 44 bytes
pub header_fits : (h : Header) → IsHeader h → length (header_bytes h) ≤ 44
header_fits h good = omega (arith, length-header_bytes h, good.few)

-- bytes that begin with two headers begin with one
pub one_header : (h k : Header) (x y : List ℕ) → IsHeader h → IsHeader k → header_bytes h ++ x ≡ header_bytes k ++ y → (h ≡ k) × (x ≡ y)
one_header h k x y gh gk e =
    let same : (spelled h, x) ≡ (spelled k, y) =
    ok_is (spelled h, x) (spelled k, y) (sym (header_again h x gh) ∙ ap header_at e ∙ header_again k y gk) in
    (one_spelled h k (ap (λ (p : Spelled × List ℕ). p.0) same), ap (λ (p : Spelled × List ℕ). p.1) same)

-- a header that is cut is short
short_front : (front : Front) (rest : List ℕ) → AreGoodFields front → length rest < next_width front
    → header_at (front_bytes front ++ rest) ≡ Err fault.Cut
    → length (front_bytes front ++ rest) < 44
short_front Nothing rest good short e = omega arith
short_front Marked rest good short e = omega arith
short_front (Versioned v) rest good short e = omega arith
short_front (Hooked v h) rest good short e = omega arith
short_front (Mapped v h n shapes) rest good short e =
    let opened : length (image_opening v h n) ≡ 8 = refl in
    omega (
      arith,
      opened,
      good.0,
      good.1,
      length-append (image_opening v h n ++ shapes_bytes shapes) rest,
      length-append (image_opening v h n) (shapes_bytes shapes),
      length-shapes_bytes shapes,
    )
short_front (Headed h) rest good short e = absurd (let ok = header_again h rest good in cc)

-- bytes whose header is read as cut are fewer than 44
pub cut_is_short : (bytes : List ℕ) → AreBytes bytes → header_at bytes ≡ Err fault.Cut → length bytes < 44
cut_is_short bytes fits e =
    let r = header_err bytes fault.Cut fits e in
    elim r.refused [
      | inl p ↦
          let moved : header_at (front_bytes r.front ++ r.rest) ≡ Err fault.Cut = ap header_at (sym r.bytes_are) ∙ e in
          subst (λ (x : List ℕ). length x < 44) (sym r.bytes_are) (short_front r.front r.rest r.good p.1 moved)
      | inr p ↦ absurd (no_cut r.front p.0 p.4)
    ]

-- ---- what is held

-- all is held where nothing was counted
pub all_held : (held bytes : List ℕ) (past : ℕ) → past ≡ 0 → Holds held past bytes → bytes ≡ held
all_held held bytes past none h =
    let empty : h.rest ≡ [] = nil_from_length h.rest (h.counted ∙ none) in
    h.bytes_are ∙ ap (λ (x : List ℕ). held ++ x) empty ∙ append-nil held

-- the first 44 bytes behind a program that is too long have its header
front_too_long : (held piece : List ℕ) (l : HasTooManySlots held)
    → take 44 (held ++ piece) ≡ header_bytes l.header ++ take (44 - length (header_bytes l.header)) (l.part ++ piece)
front_too_long held piece l =
    ap (λ (x : List ℕ). take 44 (x ++ piece)) l.held_is ∙ ap (take 44) (append_assoc (header_bytes l.header) l.part piece)
    ∙ take_past 44 (header_bytes l.header) (l.part ++ piece) (header_fits l.header l.good)

-- where the first 44 bytes of held and piece are refused, no program that is too long is held
pub not_too_long : (held piece : List ℕ) (f : LoadFault) → header_at (take 44 (held ++ piece)) ≡ Err f → HasTooManySlots held → ⊥
not_too_long held piece f e l =
    let ok =
    ap header_at (front_too_long held piece l)
    ∙ header_again l.header (take (44 - length (header_bytes l.header)) (l.part ++ piece)) l.good in
    absurd cc

-- without a program that is too long all is held
pub only_held : (held bytes : List ℕ) (past : ℕ) → (HasTooManySlots held → ⊥) → Holds held past bytes → past ≡ 0
only_held held bytes past not_long h = elim h.only [ inl e ↦ e | inr l ↦ absurd (not_long l) ]

-- ---- all bytes have the header of the first 44

-- what was held and the piece that came begin with a header whose slots were judged, and the front is that header's bytes
pub record Joined (front held piece bytes : List ℕ) (past : ℕ) (s : Spelled) (r : List ℕ) : Type 0 where
  pub header : Header
  pub good : IsHeader header
  pub slots_are : header.slots ≡ s.slots
  pub front_is : front ≡ header_bytes header ++ r
  pub tail : List ℕ
  pub bytes_are : bytes ++ piece ≡ header_bytes header ++ tail
  pub long_is : (l : HasTooManySlots held) → l.header ≡ header

-- the header of the first 44 bytes is that of all bytes, and of a program held that is too long
pub header_of_all : (held piece bytes : List ℕ) (past : ℕ) (s : Spelled) (r : List ℕ)
    → HasHeader (take 44 (held ++ piece)) s r → Holds held past bytes
    → Joined (take 44 (held ++ piece)) held piece bytes past s r
header_of_all held piece bytes past s r there h = elim h.only [ inl e ↦ whole e | inr l ↦ counted l ]
  where
    header : Header
    header = with_shapes s there.shapes

    same : (l : HasTooManySlots held) → l.header ≡ header
    same l =
        (one_header l.header header (take (44 - length (header_bytes l.header)) (l.part ++ piece)) r l.good there.good
        (sym (front_too_long held piece l) ∙ there.bytes_are)).0

    whole : past ≡ 0 → Joined (take 44 (held ++ piece)) held piece bytes past s r
    whole none = record {
      header = header;
      good = there.good;
      slots_are = refl;
      front_is = there.bytes_are;
      tail = r ++ drop 44 (held ++ piece);
      bytes_are =
          ap (λ (x : List ℕ). x ++ piece) (all_held held bytes past none h) ∙ sym (take-append-drop 44 (held ++ piece))
          ∙ ap (λ (x : List ℕ). x ++ drop 44 (held ++ piece)) there.bytes_are
          ∙ append_assoc (header_bytes header) r (drop 44 (held ++ piece));
      long_is = same;
    }

    counted : HasTooManySlots held → Joined (take 44 (held ++ piece)) held piece bytes past s r
    counted l = record {
      header = header;
      good = there.good;
      slots_are = refl;
      front_is = there.bytes_are;
      tail = (l.part ++ h.rest) ++ piece;
      bytes_are =
          ap (λ (x : List ℕ). x ++ piece)
          (h.bytes_are ∙ ap (λ (x : List ℕ). x ++ h.rest) l.held_is ∙ append_assoc (header_bytes l.header) l.part h.rest)
          ∙ append_assoc (header_bytes l.header) (l.part ++ h.rest) piece
          ∙ ap (λ (k : Header). header_bytes k ++ ((l.part ++ h.rest) ++ piece)) (same l);
      long_is = same;
    }

-- ---- faults that stay

-- the fault of a bad field is one that no further bytes take away
final_field : (front : Front) (field : List ℕ) (f : LoadFault) → IsBadNext front field f → IsFinal f
final_field front field fault.Magic bad = tt
final_field front field fault.Version bad = tt
final_field front field fault.Hook bad = tt
final_field front field fault.Shape bad = tt
final_field front field fault.Rest bad = tt
final_field front field fault.Cut bad = no_cut front field bad
final_field front field (fault.Decode slot cause) bad = no_decode slot cause front field bad
final_field front field (fault.Refused slot cause) bad = no_refusal slot cause front field bad
final_field front field fault.OutOfMemory bad = no_memory front field bad

-- a bad field stays one, whatever follows
pub bad_stays : (bytes more : List ℕ) (f : LoadFault) → HasBadField bytes f → HasBadField (bytes ++ more) f
bad_stays bytes more f b = record {
  front = b.front;
  field = b.field;
  rest = b.rest ++ more;
  good = b.good;
  bytes_are = ap (λ (x : List ℕ). x ++ more) b.bytes_are ∙ append_assoc (front_bytes b.front) (b.field ++ b.rest) more
      ∙ ap (λ (x : List ℕ). front_bytes b.front ++ x) (append_assoc b.field b.rest more);
  whole = b.whole;
  bad = b.bad;
}

-- the header is refused for a bad field
field_of : (bytes : List ℕ) (f : LoadFault) → f ≢ fault.Cut → IsRefused bytes f → HasBadField bytes f
field_of bytes f other r =
    elim r.refused [
      | inl p ↦ absurd (other p.0)
      | inr p ↦ record {
        front = r.front;
        field = p.0;
        rest = p.1;
        good = r.good;
        bytes_are = r.bytes_are ∙ ap (λ (x : List ℕ). front_bytes r.front ++ x) p.2;
        whole = p.3;
        bad = p.4;
      }
    ]

-- what the first 44 bytes are refused for, unless they are cut, no further bytes take away
pub refused_final : (held piece : List ℕ) (f : LoadFault) → AreBytes (take 44 (held ++ piece)) → f ≢ fault.Cut
    → header_at (take 44 (held ++ piece)) ≡ Err f
    → IsFinal f
refused_final held piece f fits other e =
    let b = field_of (take 44 (held ++ piece)) f other (header_err (take 44 (held ++ piece)) f fits e) in
    final_field b.front b.field f b.bad

-- what the first 44 bytes are refused for, unless they are cut, is a fault of all bytes that stays
pub refused_stays : (held piece bytes : List ℕ) (past : ℕ) (f : LoadFault)
    → AreBytes (take 44 (held ++ piece)) → f ≢ fault.Cut → header_at (take 44 (held ++ piece)) ≡ Err f → Holds held past bytes
    → HasFailed (bytes ++ piece) f
refused_stays held piece bytes past f fits other e h =
    let b = field_of (take 44 (held ++ piece)) f other (header_err (take 44 (held ++ piece)) f fits e) in
    let none = only_held held bytes past (not_too_long held piece f e) h in
    let more = bad_stays (take 44 (held ++ piece)) (drop 44 (held ++ piece)) f b in
    let is : take 44 (held ++ piece) ++ drop 44 (held ++ piece) ≡ bytes ++ piece =
    take-append-drop 44 (held ++ piece) ∙ ap (λ (x : List ℕ). x ++ piece) (sym (all_held held bytes past none h)) in
    (final_field b.front b.field f b.bad, bad_field (bytes ++ piece) f (subst (λ (x : List ℕ). HasBadField x f) is more))

-- ---- a header that is still cut

-- where the header is still cut, what is held with the whole piece stands for all bytes
pub cut_stands : (held piece bytes : List ℕ) (past : ℕ) → header_at (take 44 (held ++ piece)) ≡ Err fault.Cut → Holds held past bytes
    → Holds (held ++ take (length piece) piece) (past + (length piece - length piece)) (bytes ++ piece)
cut_stands held piece bytes past e h =
    let none = only_held held bytes past (not_too_long held piece fault.Cut e) h in
    let all : take (length piece) piece ≡ piece = take_all (length piece) piece (omega arith) in
    record {
      rest = [];
      bytes_are =
          ap (λ (x : List ℕ). x ++ piece) (all_held held bytes past none h) ∙ ap (λ (x : List ℕ). held ++ x) (sym all)
          ∙ sym (append-nil (held ++ take (length piece) piece));
      counted = omega arith;
      only = inl (omega arith);
    }

-- the first 44 bytes are all of them
cut_is_all : (held piece : List ℕ) → AreBytes (take 44 (held ++ piece)) → header_at (take 44 (held ++ piece)) ≡ Err fault.Cut
    → (take 44 (held ++ piece) ≡ held ++ piece) × (length (held ++ piece) < 44)
cut_is_all held piece fits e =
    let short = cut_is_short (take 44 (held ++ piece)) fits e in
    let all : length (held ++ piece) < 44 = omega (arith, length-take 44 (held ++ piece)) in
    (take_all 44 (held ++ piece) (omega arith), all)

-- where the header is still cut, held bytes and piece are together fewer than 44
pub cut_bounded : (held piece : List ℕ) → AreBytes (take 44 (held ++ piece))
    → header_at (take 44 (held ++ piece)) ≡ Err fault.Cut
    → length held + length piece < 44
cut_bounded held piece fits e = omega (arith, (cut_is_all held piece fits e).1, length-append held piece)

-- that bytes are cut is no fault that stays
cut_is_not_final : (f : LoadFault) → fault.Cut ≡ f → IsFinal f → ⊥
cut_is_not_final f e final = subst IsFinal (sym e) final

-- where the header is still cut, all bytes have no fault that stays
pub cut_going : (held piece bytes : List ℕ) (past : ℕ) (f : LoadFault)
    → AreBytes (take 44 (held ++ piece)) → header_at (take 44 (held ++ piece)) ≡ Err fault.Cut → Holds held past bytes
    → AreBytes (bytes ++ piece) → HasFailed (bytes ++ piece) f
    → ⊥
cut_going held piece bytes past f fits e h whole_fits failed =
    let none = only_held held bytes past (not_too_long held piece fault.Cut e) h in
    let is : take 44 (held ++ piece) ≡ bytes ++ piece =
    (cut_is_all held piece fits e).0 ∙ ap (λ (x : List ℕ). x ++ piece) (sym (all_held held bytes past none h)) in
    let cut : IsLoadFault (bytes ++ piece) fault.Cut =
    subst (λ (x : List ℕ). IsLoadFault x fault.Cut) is
    (refused_is (take 44 (held ++ piece)) fault.Cut (header_err (take 44 (held ++ piece)) fault.Cut fits e)) in
    cut_is_not_final f (one_fault (bytes ++ piece) fault.Cut f whole_fits cut failed.1) failed.0

-- ---- behind a whole header

-- a fault that stays and is found is what reading gives, and then reading does not say that the bytes are cut:
final_found : (bytes : List ℕ) (f : LoadFault) → IsFinal f → IsFound bytes f → frame_at bytes ≡ Err f
final_found bytes fault.Magic final b = b
final_found bytes fault.Version final b = b
final_found bytes fault.Hook final b = b
final_found bytes fault.Shape final b = b
final_found bytes fault.Rest final b = b
final_found bytes fault.Cut final b = absurd final
final_found bytes (fault.Decode slot cause) final b = absurd final
final_found bytes (fault.Refused slot cause) final b = absurd final
final_found bytes fault.OutOfMemory final b = absurd final

not_rest : (bytes : List ℕ) (f : LoadFault) → IsFinal f → frame_at bytes ≡ Err fault.Cut → frame_at bytes ≡ Err f → ⊥
not_rest bytes f final e d = cut_is_not_final f (let x : fault.Cut ≡ f = cc in x) final

-- no fault stays where the program is not past its end
pub within_going : (bytes : List ℕ) (h : Header) (tail : List ℕ) (f : LoadFault)
    → IsHeader h → bytes ≡ header_bytes h ++ tail → length tail ≤ 8 * h.slots → AreBytes bytes → HasFailed bytes f
    → ⊥
within_going bytes h tail f good is within fits failed =
    let found = final_found bytes f failed.0 (fault_again bytes f fits failed.1) in
    elim (cases_lt (length tail) (8 * h.slots)) [
      | inl lt ↦ not_rest bytes f failed.0 (ap frame_at is ∙ frame_short h tail good lt) found
      | inr le ↦
          not_framed bytes (spelled h, tail) f
          (frame_again bytes h tail (record { header = good; whole = omega arith; bytes_are = is })) found
    ]

-- bytes past the end stay so
pub past_fails : (bytes : List ℕ) (h : Header) (tail : List ℕ)
    → IsHeader h → bytes ≡ header_bytes h ++ tail → 8 * h.slots < length tail → HasFailed bytes fault.Rest
past_fails bytes h tail good is more = (tt, record { header = h; rest = tail; good = good; bytes_are = is; more = more })

-- all of the piece is kept
pub kept_stands : (held piece bytes : List ℕ) (past : ℕ) → (HasTooManySlots held → ⊥) → Holds held past bytes
    → Holds (held ++ take (length piece) piece) (past + (length piece - length piece)) (bytes ++ piece)
kept_stands held piece bytes past not_long h =
    let none = only_held held bytes past not_long h in
    let all : take (length piece) piece ≡ piece = take_all (length piece) piece (omega arith) in
    record {
      rest = [];
      bytes_are =
          ap (λ (x : List ℕ). x ++ piece) (all_held held bytes past none h) ∙ ap (λ (x : List ℕ). held ++ x) (sym all)
          ∙ sym (append-nil (held ++ take (length piece) piece));
      counted = omega arith;
      only = inl (omega arith);
    }

-- beyond its header a program that is too long is only counted
up_to_header : (held piece whole : List ℕ) (h : Header) (tail : List ℕ) (kept : ℕ)
    → IsHeader h → 4096 < h.slots → whole ≡ held → whole ++ piece ≡ header_bytes h ++ tail
    → length (header_bytes h) ≤ length held + kept
    → HasTooManySlots (held ++ take kept piece)
up_to_header held piece whole h tail kept good over is bytes_are reach =
    let first : take (length held + kept) (held ++ piece) ≡ held ++ take kept piece =
    take_past (length held + kept) held piece (omega arith)
    ∙ ap (λ (n : ℕ). held ++ take n piece) (let e : length held + kept - length held ≡ kept = omega arith in e) in
    let second : take (length held + kept) (held ++ piece)
    ≡ header_bytes h ++ take (length held + kept - length (header_bytes h)) tail =
    ap (λ (x : List ℕ). take (length held + kept) (x ++ piece)) (sym is) ∙ ap (take (length held + kept)) bytes_are
    ∙ take_past (length held + kept) (header_bytes h) tail reach in
    record {
      header = h;
      part = take (length held + kept - length (header_bytes h)) tail;
      good = good;
      over = over;
      held_is = sym first ∙ second;
    }

-- of a program that is too long, what is held with the header's last bytes, and a count of the others, stands for all bytes
pub counted_stands : (front held piece bytes : List ℕ) (past : ℕ) (s : Spelled) (r : List ℕ) (kept : ℕ)
    (j : Joined front held piece bytes past s r)
    → 4096 < s.slots → kept ≡ length (header_bytes j.header) - length held → Holds held past bytes
    → Holds (held ++ take kept piece) (past + (length piece - kept)) (bytes ++ piece)
counted_stands front held piece bytes past s r kept j over kept_is h =
    elim h.only [
      | inl none ↦
          let all = all_held held bytes past none h in
          record {
            rest = drop kept piece;
            bytes_are =
                ap (λ (x : List ℕ). x ++ piece) all ∙ ap (λ (x : List ℕ). held ++ x) (sym (take-append-drop kept piece))
                ∙ sym (append_assoc held (take kept piece) (drop kept piece));
            counted = omega (arith, length-drop kept piece, none);
            only =
                inr (up_to_header held piece bytes j.header j.tail kept j.good (omega (arith, over, j.slots_are)) all
                j.bytes_are (omega arith));
          }
      | inr l ↦
          let same : length (header_bytes l.header) ≡ length (header_bytes j.header) =
          ap (λ (k : Header). length (header_bytes k)) (j.long_is l) in
          let none : kept ≡ 0 = omega (arith, kept_is, same, ap length l.held_is, length-append (header_bytes l.header) l.part) in
          let empty : held ++ take kept piece ≡ held = ap (λ (n : ℕ). held ++ take n piece) none ∙ append-nil held in
          record {
            rest = h.rest ++ piece;
            bytes_are =
                ap (λ (x : List ℕ). x ++ piece) h.bytes_are ∙ append_assoc held h.rest piece
                ∙ ap (λ (x : List ℕ). x ++ (h.rest ++ piece)) (sym empty);
            counted = omega (arith, length-append h.rest piece, h.counted, none);
            only = inr (subst HasTooManySlots (sym empty) l);
          }
    ]

-- the program is not too long
pub not_over : (front held piece bytes : List ℕ) (past : ℕ) (s : Spelled) (r : List ℕ)
    (j : Joined front held piece bytes past s r)
    → s.slots ≤ 4096 → HasTooManySlots held → ⊥
not_over front held piece bytes past s r j most l =
    let same : l.header.slots ≡ j.header.slots = ap (λ (k : Header). k.slots) (j.long_is l) in
    absurd (omega (arith, l.over, j.slots_are, same))

-- how many bytes stand behind the header
pub length-tail : (front held piece bytes : List ℕ) (past : ℕ) (s : Spelled) (r : List ℕ)
    (j : Joined front held piece bytes past s r)
    → Holds held past bytes
    → length j.tail + length (header_bytes j.header) ≡ length held + past + length piece
length-tail front held piece bytes past s r j h =
    omega (
      arith,
      ap length j.bytes_are,
      length-append bytes piece,
      length-append (header_bytes j.header) j.tail,
      ap length h.bytes_are,
      length-append held h.rest,
      h.counted,
    )

-- the first bytes are as many as those of their header and what was left behind it
pub length-front : (front held piece bytes : List ℕ) (past : ℕ) (s : Spelled) (r : List ℕ)
    (j : Joined front held piece bytes past s r)
    → length front ≡ length (header_bytes j.header) + length r
length-front front held piece bytes past s r j = omega (arith, ap length j.front_is, length-append (header_bytes j.header) r)

-- ---- for the code

-- the first 44 of held bytes and a piece are bytes
pub first_bytes : (held piece : List ℕ) → AreBytes held → AreBytes piece → AreBytes (take 44 (held ++ piece))
first_bytes held piece hh hp = AreBytes-take 44 (held ++ piece) (AreBytes-append held piece hh hp)

-- what is left of the first 44 bytes behind a header is no longer than these bytes are
pub record Begins (held piece r : List ℕ) : Type 0 where
  pub rest : length r ≤ length (take 44 (held ++ piece))

-- what a header leaves of the first 44 bytes is no longer than they are
pub rest_is_within : (held piece : List ℕ) (s : Spelled) (r : List ℕ)
    → AreBytes (take 44 (held ++ piece)) → header_at (take 44 (held ++ piece)) ≡ Ok (s, r)
    → Begins held piece r
rest_is_within held piece s r fits e =
    let there = header_ok (take 44 (held ++ piece)) (s, r) fits e in
    record { rest = omega (arith, ap length there.bytes_are, length-append (header_bytes (with_shapes s there.shapes)) r) }

-- the header that was read of the first 44 bytes is that of all bytes
pub read_header_of_all : (held piece bytes : List ℕ) (past : ℕ) (s : Spelled) (r : List ℕ)
    → AreBytes (take 44 (held ++ piece)) → header_at (take 44 (held ++ piece)) ≡ Ok (s, r) → Holds held past bytes
    → Joined (take 44 (held ++ piece)) held piece bytes past s r
read_header_of_all held piece bytes past s r fits e h =
    header_of_all held piece bytes past s r (header_ok (take 44 (held ++ piece)) (s, r) fits e) h

-- the first bytes of both, part after part
pub front_joined : (held piece : List ℕ) (old new : ℕ) (none one two : List ℕ)
    → none ≡ [] → old ≡ min (length held) 44 → new ≡ min (length piece) (44 - old) → one ≡ none ++ take old held
    → two ≡ one ++ take new piece
    → two ≡ take 44 (held ++ piece)
front_joined held piece old new none one two empty old_is new_is first second =
    elim (cases_lt 44 (length held)) [
      | inl lt ↦
          let o : old ≡ 44 = omega arith in
          let n : new ≡ 0 = omega arith in
          second ∙ ap (λ (m : ℕ). one ++ take m piece) n ∙ append-nil one ∙ first
          ∙ ap (λ (x : List ℕ). x ++ take old held) empty ∙ ap (λ (m : ℕ). take m held) o
          ∙ sym (take-append-le 44 held piece (omega arith))
      | inr le ↦
          let o : old ≡ length held = omega arith in
          let all : take old held ≡ held = take_all old held (omega arith) in
          let front : one ≡ held = first ∙ ap (λ (x : List ℕ). x ++ take old held) empty ∙ all in
          let n : take new piece ≡ take (44 - length held) piece = elim (cases_lt (length piece) (44 - length held)) [
            | inl short ↦ take_all new piece (omega arith) ∙ sym (take_all (44 - length held) piece (omega arith))
            | inr long ↦ ap (λ (m : ℕ). take m piece) (let e : new ≡ 44 - length held = omega arith in e)
          ] in
          second ∙ ap (λ (x : List ℕ). x ++ take new piece) front ∙ ap (λ (x : List ℕ). held ++ x) n ∙ sym (take_past 44 held piece le)
    ]

-- what is known where a result is Ok, once it is
pub on_ok : {X E P : Type 0} (r : Result X E) (v : X) → r ≡ Ok v → OnOk r P → P
on_ok {X} {E} {P} r v e h = subst (λ (x : Result X E). OnOk x P) e h

-- the header of these first bytes is the one that is read of a slice that shows them
pub read_front : (held piece shown : List ℕ) (read : Result (Spelled × List ℕ) LoadFault)
    → shown ≡ take 44 (held ++ piece) → header_at shown ≡ read → header_at (take 44 (held ++ piece)) ≡ read
read_front held piece shown read same is = ap header_at (sym same) ∙ is

-- how many bytes there are, counted up to the greatest number of 64 bits
abbrev pub count_up : ℕ → ℕ → ℕ → ℕ
count_up held past piece = min (min (held + past) (2 ^ 64 - 1) + piece) (2 ^ 64 - 1)

-- where all bytes reach no further than the end of the program, no fault stays
pub read_going : (held piece bytes : List ℕ) (past : ℕ) (s : Spelled) (r : List ℕ) (f : LoadFault)
    → AreBytes (take 44 (held ++ piece)) → header_at (take 44 (held ++ piece)) ≡ Ok (s, r)
    → count_up (length held) past (length piece) ≤ length (take 44 (held ++ piece)) - length r + 8 * s.slots
    → Holds held past bytes → AreBytes (bytes ++ piece) → HasFailed (bytes ++ piece) f
    → ⊥
read_going held piece bytes past s r f fits read near h whole failed =
    let front = take 44 (held ++ piece) in
    let j = read_header_of_all held piece bytes past s r fits read h in
    let within : length j.tail ≤ 8 * j.header.slots =
    omega (
      arith,
      near,
      length-take 44 (held ++ piece),
      length-front front held piece bytes past s r j,
      length-tail front held piece bytes past s r j h,
      j.slots_are,
      j.good.slots,
    ) in
    within_going (bytes ++ piece) j.header j.tail f j.good j.bytes_are within whole failed

-- where they reach further, the bytes behind the program are a fault
pub read_past : (held piece bytes : List ℕ) (past : ℕ) (s : Spelled) (r : List ℕ)
    → AreBytes (take 44 (held ++ piece)) → header_at (take 44 (held ++ piece)) ≡ Ok (s, r)
    → length (take 44 (held ++ piece)) - length r + 8 * s.slots < count_up (length held) past (length piece)
    → Holds held past bytes
    → HasFailed (bytes ++ piece) fault.Rest
read_past held piece bytes past s r fits read far h =
    let front = take 44 (held ++ piece) in
    let j = read_header_of_all held piece bytes past s r fits read h in
    let more : 8 * j.header.slots < length j.tail =
    omega (
      arith,
      far,
      length-take 44 (held ++ piece),
      length-front front held piece bytes past s r j,
      length-tail front held piece bytes past s r j h,
      j.slots_are,
    ) in
    past_fails (bytes ++ piece) j.header j.tail j.good j.bytes_are more
