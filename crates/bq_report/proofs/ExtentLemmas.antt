-- The earliest and the latest reading of the processors, one processor more at a time.
use Rattle.std.proofs.Common.{◌≡◌, ℕ, ◌+◌, ◌-◌, ◌^◌, ◌<◌, ◌≤◌, max, min, ◌⊎◌, inl, inr, Some, IsSome, IfSome, IfNone, is_some, unwrap_or, Bool, true, false, true≢false, nat_lt, refl, sym, ap, ◌∙◌, subst, arith}
use Rattle.std.proofs.lemmas.Bool.{cases_lt, cases_eq}
use Rattle.std.specs.Bool.{then_some}
use Rattle.std.specs.Ordering.{nat_cmp, ord_max}
use Rattle.std.proofs.lemmas.Bool.Decides.{Decides-ltb, nat_tests}
use Rattle.bq_schedule.specs.declared.figures.ProcessorFigures.{ProcessorFigures}
use Rattle.bq_schedule.specs.Figures.{Figures, processor_in_figures}
use Rattle.bq_report.specs.declared.window.Window.{Window}
use Rattle.bq_report.specs.declared.extent.Extent.{Extent}
use Rattle.bq_report.specs.Windows.{ShowsProcessor}
use Rattle.bq_report.specs.Extents.{IsFirstReading, IsLastReading, SpansReadings}

-- the earliest first and the latest last reading of the first processors, this many, or the ends of time where none was read
pub record Read (w : Window) (s : Figures) (count first last : ℕ) : Type 0 where
  pub is_first : (first ≡ 2 ^ 64 - 1) ⊎ IsFirstReading w s first
  pub is_last : (last ≡ 0) ⊎ IsLastReading w s last
  pub least : (p at : ℕ) → p < count → ShowsProcessor w p → (processor_in_figures s p).first ≡ Some at → first ≤ at
  pub most : (p : ℕ) → p < count → ShowsProcessor w p → IsSome (processor_in_figures s p).first → (processor_in_figures s p).last ≤ last

-- one more that is not shown, or was never read, changes nothing
pub read_passed : (w : Window) (s : Figures) (count first last : ℕ) → (ShowsProcessor w count → IsSome (processor_in_figures s count).first → ⊥)
    → Read w s count first last → Read w s (count + 1) first last
read_passed w s count first last out r = record {
  is_first = r.is_first;
  is_last = r.is_last;
  least = λ p at h shown e. elim (cases_eq p count) [
    | inl same ↦ absurd (out (subst (ShowsProcessor w) same shown) (ap (λ q. is_some (processor_in_figures s q).first) (sym same) ∙ ap is_some e))
    | inr other ↦ r.least p at (omega arith) shown e
  ];
  most = λ p h shown e. elim (cases_eq p count) [
    | inl same ↦ absurd (out (subst (ShowsProcessor w) same shown) (ap (λ q. is_some (processor_in_figures s q).first) (sym same) ∙ e))
    | inr other ↦ r.most p (omega arith) shown e
  ];
}

-- the earlier of two first readings is one, and the later of two last ones, or the one where there was none before:
first_of_both : (w : Window) (s : Figures) (first reading : ℕ) → (first ≡ 2 ^ 64 - 1) ⊎ IsFirstReading w s first
    → IsFirstReading w s reading → (min first reading ≡ 2 ^ 64 - 1) ⊎ IsFirstReading w s (min first reading)
first_of_both w s first reading before here = elim (cases_lt first reading) [
  | inl less ↦ subst (λ n. (n ≡ 2 ^ 64 - 1) ⊎ IsFirstReading w s n) (omega arith) before
  | inr not ↦ inr (subst (IsFirstReading w s) (omega arith) here)
]

last_of_both : (w : Window) (s : Figures) (last reading : ℕ) → (last ≡ 0) ⊎ IsLastReading w s last
    → IsLastReading w s reading → (max last reading ≡ 0) ⊎ IsLastReading w s (max last reading)
last_of_both w s last reading before here = elim (cases_lt reading last) [
  | inl less ↦ subst (λ n. (n ≡ 0) ⊎ IsLastReading w s n) (omega arith) before
  | inr not ↦ inr (subst (IsLastReading w s) (omega arith) here)
]

-- one more that is shown and was read counts
read_more : (w : Window) (s : Figures) (count first last reading : ℕ) → ShowsProcessor w count → (processor_in_figures s count).first ≡ Some reading
    → Read w s count first last → Read w s (count + 1) (min first reading) (max last (processor_in_figures s count).last)
read_more w s count first last reading shows known r = record {
  is_first = first_of_both w s first reading r.is_first (record { processor = count; shown = shows; first = known });
  is_last = last_of_both w s last (processor_in_figures s count).last r.is_last
      (record { processor = count; shown = shows; was_read = ap is_some known; last = refl });
  least = λ p at h shown e. elim (cases_eq p count) [
    | inl same ↦
        let own : reading ≡ at = ap (λ o. unwrap_or o 0) (sym known ∙ ap (λ q. (processor_in_figures s q).first) (sym same) ∙ e) in
        omega arith
    | inr other ↦ omega (arith, r.least p at (omega arith) shown e)
  ];
  most = λ p h shown e. elim (cases_eq p count) [
    | inl same ↦ let own : (processor_in_figures s p).last ≡ (processor_in_figures s count).last = ap (λ q. (processor_in_figures s q).last) same in omega arith
    | inr other ↦ omega (arith, r.most p (omega arith) shown e)
  ];
}

-- the greater of two numbers by their order is the greater
greater : (a b : ℕ) → ord_max nat_cmp a b ≡ max a b
greater a b = grind (arith, nat_tests)

-- one more processor that is shown counts, by its figures as they were read
pub read_shown : (w : Window) (s : Figures) (count first last reading : ℕ) (figures : ProcessorFigures) (first_now last_now : ℕ)
    → figures ≡ processor_in_figures s count → ShowsProcessor w count → figures.first ≡ Some reading → first_now ≡ min first reading
    → last_now ≡ ord_max nat_cmp last figures.last → Read w s count first last → Read w s (count + 1) first_now last_now
read_shown w s count first last reading figures first_now last_now is shows some early late r =
    let known = sym (ap (λ f. f.first) is) ∙ some in
    let latest : last_now ≡ max last (processor_in_figures s count).last = late ∙ greater last figures.last ∙ ap (λ f. max last f.last) is in
    rw (early, latest) (read_more w s count first last reading shows known r)

-- what lasts from the earliest first reading to the latest last one, as far as the window goes, is the extent
spans : (w : Window) (s : Figures) (first last : ℕ) (e : Extent) → e.to < 2 ^ 64 → Read w s 64 first last
    → e.from ≡ max first w.from → e.to ≡ min last w.to → e.from < e.to → SpansReadings w s e
spans w s first last e fits r from to lasts = elim r.is_first [
  | inl never ↦ absurd (omega (arith, never))
  | inr some_first ↦ elim r.is_last [
    | inl never ↦ absurd (omega (arith, never))
    | inr some_last ↦ record {
      earliest = first;
      latest = last;
      is_earliest = record { holds = some_first; least = λ other h. r.least h.processor other h.shown.is_number h.shown h.first };
      is_latest = record {
        holds = some_last;
        bounds = λ other h. subst (λ n. n ≤ last) h.last (r.most h.processor h.shown.is_number h.shown h.was_read);
      };
      begins = omega (arith, from);
      ends = omega (arith, to);
    }
  ]
]

-- there is no extent where the earliest first reading is not before the latest last one within the window
spans_none : (w : Window) (s : Figures) (first last : ℕ) → Read w s 64 first last → min last w.to ≤ max first w.from
    → (e : Extent) → SpansReadings w s e → e.to ≤ e.from
spans_none w s first last r short e h =
    let a = h.is_earliest.holds in
    let b = h.is_latest.holds in
    let early : first ≤ h.earliest = r.least a.processor h.earliest a.shown.is_number a.shown a.first in
    let late : h.latest ≤ last = subst (λ n. n ≤ last) b.last (r.most b.processor b.shown.is_number b.shown b.was_read) in
    omega (arith, h.begins, h.ends, early, late)

-- an extent is shown exactly when it lasts, and then it is this
pub spans_if : (w : Window) (s : Figures) (first last : ℕ) (e : Extent) → e.to < 2 ^ 64 → Read w s 64 first last
    → e.from ≡ max first w.from → e.to ≡ min last w.to → (b : Bool) → nat_lt e.from e.to ≡ b
    → IfSome (then_some b e) (SpansReadings w s) × IfNone (then_some b e) ((other : Extent) → SpansReadings w s other → other.to ≤ other.from)
spans_if w s first last e fits r from to true is = (spans w s first last e fits r from to ((Decides-ltb e.from e.to).0 is), tt)
spans_if w s first last e fits r from to false is = elim (cases_lt e.from e.to) [
  | inl less ↦ absurd (true≢false (sym ((Decides-ltb e.from e.to).1 less) ∙ is))
  | inr not ↦ (tt, spans_none w s first last r (omega (arith, from, to, not)))
]
