-- An object that has members put last under names of their own has each of them, and the first line of a text is that
-- of what it begins with.
use Rattle.std.proofs.Common.{◌≡◌, ◌∙◌, ◌==◌, ◌+◌, ℕ, suc, Bool, true, false, not, cond, true≢false, List, [], ◌∷◌, ◌++◌, take, ap, arith, refl, subst, sym}
use Rattle.std.specs.Prelude.{codes}
use Rattle.std.specs.Fmt.{decimal, signed_decimal}
use Rattle.std.specs.List.{AllByRecursion}
use Rattle.std.specs.Str.{bytes_eq}
use Rattle.std.proofs.lemmas.Slice.Eq.{bytes_eq-Decides}
use Rattle.serde_json.specs.Data.{Data, Members, null, object, put, string}
use Rattle.serde_json.specs.Find.{get_member}
use Rattle.serde_json.proofs.Views.{get_member-put, get_member-put_other}
use Rattle.bq_hooks.specs.Hooks.{hook_word}
use Rattle.bq_insn.specs.Appending.{StartsWith}
use Rattle.bq_words.specs.Refused.{refused_line}
use Rattle.bq_load.specs.Naming.{load_fault_text as image_text}
use Rattle.bq_load.specs.declared.fault.LoadFault.TheVariants as load
use Rattle.bq_explain.specs.Beginnings.{text_beginning}
use Rattle.bq_explain.specs.Measures.{measure_word}
use Rattle.bq_explain.specs.Verdicts.{is_accepted}
use Rattle.bq_explain.specs.declared.verdict.Verdict.{Verdict}
use Rattle.bq_explain.specs.declared.verdict.Verdict.TheVariants.{Accepted, OverSteps, Forbidden, OtherHook, Beyond, Refused}
use Rattle.bq_policy_file.specs.Naming.{policy_fault_text}
use Rattle.bq_policy_file.specs.declared.fault.PolicyFault.{PolicyFault}
use Rattle.bq_policy_file.specs.declared.policy_source.PolicySource.{PolicySource}
use Rattle.bq_policy_check.specs.Refusing.{policy_fault_line}
use Rattle.bq_policy_check.specs.Showing.{HasMembers, IsFirstLine, IsJson, IsLineOf, ShowsFault, ShowsNone, ShowsVerdict, answer_members, first_line, of_fault, of_verdict, put_all}

-- none of them has that name
abbrev AreOthers : List ℕ → List (List ℕ × Data) → Type 0
AreOthers name named = AllByRecursion (λ member. bytes_eq name member.0 ≡ false) named

-- each has a name of its own
abbrev AreApart : List (List ℕ × Data) → Type 0
AreApart [] = Unit {0}
AreApart (first ∷ rest) = AreOthers first.0 rest × AreApart rest

-- names that differ as bytes are not the same name
differ : (a b : List ℕ) → bytes_eq a b ≡ false → a ≡ b → ⊥
differ a b other same = true≢false (sym ((bytes_eq-Decides a b).1 same) ∙ other)

-- members under other names leave what is under that one
others_leave : (name : List ℕ) (named : List (List ℕ × Data)) (old : Members)
    → AreOthers name named → get_member name (put_all named old) ≡ get_member name old
others_leave name [] old others = refl
others_leave name (first ∷ rest) old others =
    others_leave name rest (put first.0 first.1 old) others.1
    ∙ get_member-put_other name first.0 first.1 old (differ name first.0 others.0)

-- an object in which members were put under names of their own has each of these members
has_all : (named : List (List ℕ × Data)) (old : Members) → AreApart named → HasMembers named (object (put_all named old))
has_all [] old apart = tt
has_all (first ∷ rest) old apart = (
  others_leave first.0 rest (put first.0 first.1 old) apart.0 ∙ get_member-put first.0 first.1 old,
  has_all rest (put first.0 first.1 old) apart.1,
)

-- what stands behind a line's end does not change the first line
more_behind : (goes_on : Bool) (x m n : ℕ) (xs ys : List ℕ) → take m xs ≡ take n ys
    → take (cond goes_on (1 + m) 0) (x ∷ xs) ≡ take (cond goes_on (1 + n) 0) (x ∷ ys)
more_behind true x m n xs ys same =
    let first : 1 + m ≡ suc m = omega arith in
    let second : 1 + n ≡ suc n = omega arith in
    rw (first, second) (ap (λ (l : List ℕ). x ∷ l) same)
more_behind false x m n xs ys same = refl

-- what stands behind a line does not change the first line of the text
first_of_line : (line behind : List ℕ) → first_line ((line ++ codes "\n") ++ behind) ≡ first_line (line ++ codes "\n")
first_of_line [] behind = refl
first_of_line (x ∷ line) behind = more_behind (not (x == 10)) x _ _ _ _ (first_of_line line behind)

-- the first line of a text that begins with a refusal's line is that of the refusal
first_refused : (why text line : List ℕ) → StartsWith (refused_line why) text → line ≡ first_line text
    → line ≡ first_line (refused_line why)
first_refused why text line begins is = is ∙ ap first_line begins.1 ∙ first_of_line (codes "refused " ++ why) begins.0

-- the first line of a text that begins with a verdict's words is the verdict's first line
first_of_verdict : (p : PolicySource) (verdict : Verdict) (text line : List ℕ)
    → StartsWith (text_beginning p verdict) text → line ≡ first_line text → IsFirstLine p verdict line
first_of_verdict p (Accepted budget) text line begins is = (text, begins, is)
first_of_verdict p (OverSteps budget most) text line begins is =
    first_refused (codes "limit steps " ++ (decimal budget ++ (codes " of " ++ decimal most))) text line begins is
first_of_verdict p (Forbidden helper) text line begins is =
    first_refused (codes "limit helper " ++ signed_decimal helper) text line begins is
first_of_verdict p OtherHook text line begins is = first_refused (codes "limit hook " ++ hook_word p.form.hook) text line begins is
first_of_verdict p (Beyond over) text line begins is =
    first_refused
    (codes "limit " ++ (measure_word over.measure ++ (codes " " ++ (decimal over.used ++ (codes " of " ++ decimal over.most)))))
    text line begins is
first_of_verdict p (Refused slot cause) text line begins is = first_refused (image_text (load.Refused slot cause)) text line begins is

-- the members of an answer and those of its verdict have names of their own
verdict_apart : (p : PolicySource) (verdict : Verdict) (accepted : Bool) (answer : Data)
    → AreApart (answer_members accepted answer ++ of_verdict p verdict)
verdict_apart p (Accepted budget) accepted answer = search
verdict_apart p (OverSteps budget most) accepted answer = search
verdict_apart p (Forbidden helper) accepted answer = search
verdict_apart p OtherHook accepted answer = search
verdict_apart p (Beyond over) accepted answer = search
verdict_apart p (Refused slot cause) accepted answer = search

-- a line of the members that are put last has them
shows : (named : List (List ℕ × Data)) (old new : Members) (text : List ℕ)
    → AreApart named → new ≡ put_all named old → IsLineOf (object new) text → IsJson named text
shows named old new text apart is line =
    (object new, subst (λ (now : Members). HasMembers named (object now)) (sym is) (has_all named old apart), line)

-- an object whose last members are the answer's and those of the verdict shows the verdict
pub shows_verdict : (p : PolicySource) (verdict : Verdict) (first prose text : List ℕ) (old new : Members)
    → StartsWith (text_beginning p verdict) prose → first ≡ first_line prose
    → new ≡ put_all (answer_members (is_accepted verdict) (string first) ++ of_verdict p verdict) old
    → IsLineOf (object new) text
    → ShowsVerdict p verdict text
shows_verdict p verdict first prose text old new begins is made line =
    let named = answer_members (is_accepted verdict) (string first) ++ of_verdict p verdict in (
      first,
      first_of_verdict p verdict prose first begins is,
      shows named old new text (verdict_apart p verdict (is_accepted verdict) (string first)) made line,
    )

-- an object whose last members are the answer's shows a fault of a file
pub shows_fault : (named : PolicyFault) (first prose text : List ℕ) (old new : Members)
    → StartsWith (policy_fault_line named) prose → first ≡ first_line prose
    → new ≡ put_all (answer_members false (string first) ++ of_fault named) old → IsLineOf (object new) text
    → ShowsFault named text
shows_fault named first prose text old new begins is made line =
    let apart : AreApart (answer_members false (string first) ++ of_fault named) = search in
    subst (λ (l : List ℕ). IsJson (answer_members false (string l) ++ of_fault named) text)
    (first_refused (policy_fault_text named) prose first begins is)
    (shows (answer_members false (string first) ++ of_fault named) old new text apart made line)

-- an object whose last members are those of no answer shows no answer
pub shows_none : (old new : Members) (text : List ℕ) → new ≡ put_all (answer_members false null) old
    → IsLineOf (object new) text
    → ShowsNone text
shows_none old new text made line =
    let apart : AreApart (answer_members false null) = ((refl, tt), (tt, tt)) in
    shows (answer_members false null) old new text apart made line
