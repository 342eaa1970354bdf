-- Shifts, as their receipts come, and how many ticks are in them.
use Rattle.std.proofs.Common.{◌≡◌, ℕ, ◌+◌, ◌-◌, ◌^◌, ◌↔◌, pos, List, [], ◌∷◌, ◌++◌, length, Option, None, Some, IfSome, IsOk, IsSome, refl, sym, ap, ◌∙◌, add_assoc, append_assoc, append-nil, length-append, arith}
use Rattle.std.specs.Option.{option_to_list}
use Rattle.bq_history.specs.Whole.{total, Each}
use Rattle.bq_history.specs.declared.shared_state.Receipt.{Receipt}
use Rattle.bq_history.proofs.RecordingLemmas.{each_more}
use Rattle.bq_parts.specs.declared.event.Event.TheVariants.{Admit, BeginWake, EndWake, Drain}
use Rattle.bq_shared.specs.declared.record.Record.{Record}
use Rattle.bq_par.specs.Shifts.{IsShift, IsShiftStart, IsTickAt, TicksMore}
use Rattle.bq_par.specs.Ticks.{one_tick, one_if_tick}

-- no receipts more are no ticks more
pub none_more : (p : ℕ) (l : List (Receipt Record)) → TicksMore p 0 l l
none_more p l = record { beats = []; behind = sym (append-nil l); many = refl; each = tt }

-- n ticks and then one more are n + 1 ticks
pub one_more : (p n : ℕ) (before after : List (Receipt Record)) (x : Receipt Record)
    → IsTickAt p x → TicksMore p n before after → TicksMore p (n + 1) before (after ++ x ∷ [])
one_more p n before after x tick t = record {
  beats = t.beats ++ x ∷ [];
  behind = ap (λ l. l ++ x ∷ []) t.behind ∙ append_assoc before t.beats (x ∷ []);
  many = length-append t.beats (x ∷ []) ∙ ap (λ (m : ℕ). m + 1) t.many;
  each = each_more (IsTickAt p) t.beats x t.each tick;
}

-- the wake ends at a reading, whatever else is known of it
pub woken_there : (p : ℕ) (G : ℕ → Type 0) (o : Option (Receipt Record))
    → IfSome o (λ (r : Receipt Record). (now : ℕ) × G now × (r.entry.event ≡ EndWake p now))
    → IfSome o (λ (r : Receipt Record). (now : ℕ) × (r.entry.event ≡ EndWake p now))
woken_there p G None woken = tt
woken_there p G (Some r) (now, gives, is) = (now, is)

-- the receipts of the beginning, taken one after another, are these in order
pub start_whole : (l0 l1 l2 l3 o : List (Receipt Record)) (a b d : Receipt Record)
    → l0 ≡ [] → l1 ≡ l0 ++ a ∷ [] → l2 ≡ (l1 ++ b ∷ []) ++ o → l3 ≡ l2 ++ d ∷ [] → l3 ≡ a ∷ b ∷ (o ++ d ∷ [])
start_whole l0 l1 l2 l3 o a b d e0 e1 e2 e3 = rw (e3, e2, e1, e0) refl

-- the receipts of an admission, a wake's begin, its end if there is one, and a drain begin a shift
pub start_is : (p : ℕ) (l0 l1 l2 l3 : List (Receipt Record)) (a b d : Receipt Record) (o : Option (Receipt Record))
    → l0 ≡ [] → l1 ≡ l0 ++ a ∷ [] → l2 ≡ (l1 ++ b ∷ []) ++ option_to_list o → l3 ≡ l2 ++ d ∷ []
    → a.entry.event ≡ Admit p (pos 0) (2 ^ 64 - 1) 3000000 → b.entry.event ≡ BeginWake p p
    → IfSome o (λ (r : Receipt Record). (now : ℕ) × (r.entry.event ≡ EndWake p now)) → (IsSome o ↔ IsOk b.entry.reply)
    → (now : ℕ) × (d.entry.event ≡ Drain p now)
    → IsShiftStart p l3
start_is p l0 l1 l2 l3 a b d o e0 e1 e2 e3 admitted begun woken ended drained = record {
  admit = a;
  begin = b;
  end = o;
  drain = d;
  whole = start_whole l0 l1 l2 l3 (option_to_list o) a b d e0 e1 e2 e3;
  admitted = admitted;
  begun = begun;
  woken = woken;
  ended = ended;
  drained = drained;
}

-- how many of the receipts are for ticks
abbrev pub ticks_of : List (Receipt Record) → ℕ
ticks_of l = total (λ (x : Receipt Record). one_tick x.entry) l

-- the ticks of two lists of receipts, one behind the other, add up
ticks_append : (xs ys : List (Receipt Record)) → ticks_of (xs ++ ys) ≡ ticks_of xs + ticks_of ys
ticks_append [] ys = omega arith
ticks_append (x ∷ xs) ys =
    ap (λ n. one_tick x.entry + n) (ticks_append xs ys) ∙ sym (add_assoc (one_tick x.entry) (ticks_of xs) (ticks_of ys))

-- receipts that are all for ticks have as many ticks as there are receipts
beats_count : (p : ℕ) (l : List (Receipt Record)) → Each (IsTickAt p) l → ticks_of l ≡ length l
beats_count p [] each = refl
beats_count p (x ∷ xs) ((now, tick), more) =
    let here : one_tick x.entry ≡ 1 = ap one_if_tick tick in
    let rest = beats_count p xs more in
    omega (arith, here, rest)

-- the end of a wake, if there is one, is no tick
end_counts : (p : ℕ) (end : Option (Receipt Record)) → IfSome end (λ (r : Receipt Record). (now : ℕ) × (r.entry.event ≡ EndWake p now))
    → ticks_of (option_to_list end) ≡ 0
end_counts p None woken = refl
end_counts p (Some r) (now, is) = let here : one_tick r.entry ≡ 0 = ap one_if_tick is in omega (arith, here)

-- the beginning of a shift has no ticks
start_counts : (p : ℕ) (l : List (Receipt Record)) → IsShiftStart p l → ticks_of l ≡ 0
start_counts p l s =
    let a : one_tick s.admit.entry ≡ 0 = ap one_if_tick s.admitted in
    let b : one_tick s.begin.entry ≡ 0 = ap one_if_tick s.begun in
    let d : one_tick s.drain.entry ≡ 0 = ap one_if_tick s.drained.1 in
    let e = end_counts p s.end s.woken in
    let parts = ticks_append (option_to_list s.end) (s.drain ∷ []) in
    rw s.whole (omega (arith, a, b, d, e, parts))

-- a shift has as many ticks as it was to have
pub shift_counts : (p ticks : ℕ) (l : List (Receipt Record)) → IsShift p ticks l → ticks_of l ≡ ticks
shift_counts p ticks l s =
    let t = s.ticked in
    let parts : ticks_of l ≡ ticks_of s.start + ticks_of t.beats = ap ticks_of t.behind ∙ ticks_append s.start t.beats in
    let first = start_counts p s.start s.started in
    let beats = beats_count p t.beats t.each in
    omega (arith, parts, first, beats, t.many)
