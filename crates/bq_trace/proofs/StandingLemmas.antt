-- What comes of the lines of a piece in turn.
use Rattle.std.proofs.Common.{◌≡◌, ℕ, List, [], ◌∷◌, ◌++◌, length, map, refl, sym, ap, ◌∙◌, append_assoc, append-nil, subst, false, cond, eqb, Some}
use Rattle.std.specs.List.{AllByRecursion}
use Rattle.std.specs.Str.Lines.{lines, strip_carriage_return}
use Rattle.std.proofs.lemmas.List.{map-append}
use Rattle.std.proofs.lemmas.List.Elements.{All-append, All-nil}
use Rattle.bq_lines.specs.Kept.{IsOneLine, KeepsLine}
use Rattle.bq_trace.specs.TraceEvents.{TraceEvent, Reported, TakesAll, Gets}
use Rattle.bq_trace.specs.Reporting.{ReportsLine, Story}
use Rattle.bq_trace.specs.Feeding.{with_feeds}
use Rattle.bq_trace.proofs.LineLemmas.{lines-one}
use Rattle.bq_trace.proofs.TakingLemmas.{TakesAll-append}
use Rattle.bq_trace.specs.declared.progress.Progress.{Progress}
use Rattle.bq_trace.specs.declared.trace_position.TracePosition.{TracePosition}

-- lines and the lines after them are reported by both stories, joined
pub Story-append : (p m q : Progress) (xs ys : List (List ℕ)) (t u : Reported)
    → Story p xs t m → Story m ys u q → Story p (xs ++ ys) (t ++ u) q
Story-append p m q [] ys t u h k =
    subst (λ s. Story s ys (t ++ u) q) h.1 (subst (λ l. Story m ys (l ++ u) q) (sym h.0) k)
Story-append p m q (x ∷ xs) ys t u h k =
    (h.0, h.1, h.2 ++ u, h.3, Story-append h.0 m q xs ys h.2 u h.4 k, ap (λ l. l ++ u) h.5 ∙ append_assoc h.1 h.2 u)

-- what comes of a line is the story of only that line
pub Story-one : (p q : Progress) (line : List ℕ) (reported : Reported) → ReportsLine p line reported q → Story p (line ∷ []) reported q
Story-one p q line reported h = (q, reported, [], h, (refl, refl), sym (append-nil reported))

-- The lines so far are reported, current is the line that has begun, and rest is still to come.
pub record SoFar {S : Type 0} (takes : S → ℕ → TraceEvent → S → Type 0) (s : TracePosition) (whole : List ℕ)
    (t : TracePosition) (rest : List ℕ) (old new : S) : Type 0 where
  pub ended : List (List ℕ)
  pub current : List ℕ
  pub reported : Reported
  pub split : whole ≡ with_feeds ended ++ (current ++ rest)
  pub each : AllByRecursion IsOneLine ended
  pub story : Story s.progress (map strip_carriage_return ended) reported t.progress
  pub stands : KeepsLine t.begun current
  pub taken : TakesAll takes old reported new

-- before the first byte of a piece no line is reported, and the line that had begun stands
pub SoFar-none : {S : Type 0} (takes : S → ℕ → TraceEvent → S → Type 0) (s : TracePosition) (begun piece : List ℕ) (old : S)
    → KeepsLine s.begun begun → SoFar takes s (begun ++ piece) s piece old old
SoFar-none takes s begun piece old h = record {
  ended = [];
  current = begun;
  reported = [];
  split = refl;
  each = tt;
  story = (refl, refl);
  stands = h;
  taken = refl;
}

-- lines that are each one line, and one more such line, are each one line
AllByRecursion-one : (xs : List (List ℕ)) (x : List ℕ) → AllByRecursion IsOneLine xs → IsOneLine x → AllByRecursion IsOneLine (xs ++ x ∷ [])
AllByRecursion-one [] x h k = (k, tt)
AllByRecursion-one (y ∷ xs) x h k = (h.0, AllByRecursion-one xs x h.1 k)

-- the text of some lines and one more is the text of the former, then that line and its line feed
with_feeds-one : (xs : List (List ℕ)) (x more : List ℕ) → with_feeds (xs ++ x ∷ []) ++ more ≡ with_feeds xs ++ (x ++ 10 ∷ more)
with_feeds-one [] x more = append_assoc (x ++ 10 ∷ []) [] more ∙ append_assoc x (10 ∷ []) more
with_feeds-one (y ∷ xs) x more =
    append_assoc (y ++ 10 ∷ []) (with_feeds (xs ++ x ∷ [])) more
    ∙ ap (λ l. (y ++ 10 ∷ []) ++ l) (with_feeds-one xs x more)
    ∙ sym (append_assoc (y ++ 10 ∷ []) (with_feeds xs) (x ++ 10 ∷ more))

-- nothing is kept of a line that has not begun
pub stands_for_nothing : KeepsLine (Some []) []
stands_for_nothing = record { one_line = All-nil (λ b. eqb b 10 ≡ false); kept_is = refl }

-- a trace that stands so far stands one line further once one more line ends
pub SoFar-more : {S : Type 0} (takes : S → ℕ → TraceEvent → S → Type 0) (s t u : TracePosition)
    (whole rest tail more : List ℕ) (old mid new : S)
    → (h : SoFar takes s whole t rest old mid) → rest ≡ tail ++ 10 ∷ more → IsOneLine tail
    → Gets takes mid new (λ reported. ReportsLine t.progress (strip_carriage_return (h.current ++ tail)) reported u.progress)
    → u.begun ≡ Some []
    → SoFar takes s whole u more old new
SoFar-more takes s t u whole rest tail more old mid new h cut one a cleared = record {
  ended = h.ended ++ (h.current ++ tail) ∷ [];
  current = [];
  reported = h.reported ++ a.reported;
  split =
      h.split ∙ ap (λ r. with_feeds h.ended ++ (h.current ++ r)) cut
      ∙ ap (λ l. with_feeds h.ended ++ l) (sym (append_assoc h.current tail (10 ∷ more)))
      ∙ sym (with_feeds-one h.ended (h.current ++ tail) more);
  each = AllByRecursion-one h.ended (h.current ++ tail) h.each (All-append (λ b. eqb b 10 ≡ false) h.current tail h.stands.one_line one);
  story =
      subst (λ ls. Story s.progress ls (h.reported ++ a.reported) u.progress)
      (sym (map-append strip_carriage_return h.ended ((h.current ++ tail) ∷ [])))
      (Story-append s.progress t.progress u.progress (map strip_carriage_return h.ended)
      (strip_carriage_return (h.current ++ tail) ∷ []) h.reported a.reported h.story
      (Story-one t.progress u.progress (strip_carriage_return (h.current ++ tail)) a.reported a.holds));
  stands = subst (λ k. KeepsLine k []) (sym cleared) stands_for_nothing;
  taken = TakesAll-append takes old mid new h.reported a.reported h.taken a.taken;
}

-- the last line is reported
pub ends_with : {S : Type 0} (takes : S → ℕ → TraceEvent → S → Type 0) (p q : Progress) (begun : List ℕ) (old new : S)
    → IsOneLine begun → eqb (length begun) 0 ≡ false → Gets takes old new (λ reported. ReportsLine p begun reported q)
    → Gets takes old new (λ reported. Story p (lines begun) reported q)
ends_with takes p q begun old new one e a =
    let last : lines begun ≡ begun ∷ [] = lines-one begun one ∙ ap (λ t. cond t [] (begun ∷ [])) e in
    record {
      reported = a.reported;
      taken = a.taken;
      holds = subst (λ ls. Story p ls a.reported q) (sym last) (Story-one p q begun a.reported a.holds);
    }
