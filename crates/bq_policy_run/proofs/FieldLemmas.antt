-- The first row of a name, in the code's table and in the definition's, and the one field of a name.
use Rattle.std.proofs.Common.{◌≡◌, ◌≢◌, ℕ, suc, zero, ◌+◌, ◌*◌, ◌^◌, ◌<◌, ◌≤◌, ◌==◌, Bool, true, false, cond, nat_le, List, [], ◌∷◌, map, Option, Some, None, IfNone, IfSome, option_map, inl, inr, refl, sym, subst, ap, ◌∙◌, arith}
use Rattle.std.specs.List.{find}
use Rattle.std.specs.Str.{bytes_eq}
use borrow.Author.Tests.{eq-eqb, leb-true}
use Rattle.bq_policy_run.specs.declared.fields.FieldRow.{FieldRow}
use Rattle.std.proofs.lemmas.Slice.Eq.{bytes_eq-Decides}
use Rattle.bq_hooks.specs.Hooks.{context_length_of}
use Rattle.bq_hooks.specs.declared.hook.Hook.{Hook}
use Rattle.bq_hooks.specs.declared.hook.Hook.TheVariants.{Place, Preempt, Pull}
use Rattle.bq_hooks.specs.declared.hook.Version.{Version}
use Rattle.bq_hooks.specs.declared.hook.Version.TheVariants.{First, Second}
use Rattle.bq_policy_run.specs.declared.fields.Field.{Field}
use Rattle.bq_policy_run.specs.Fields.{GoesBy, GoesByName, HasNumber, IsField, IsNumbered, IsSingle, NamedField, bytes_in, fields_of, row_named, field_of_row}
use Rattle.bq_console.specs.Words.{IsSplitAtMark, IsFreeOf, IsNumber}
use Rattle.bq_console.proofs.WordLemmas.{cut_once, free_cut, number_once}

-- the first row of a name is the same in the code's table and in the definition's
pub same_row : (rows : List FieldRow) (name : List ℕ)
    → row_named (map field_of_row rows) name ≡ option_map field_of_row (find (λ (r : FieldRow). bytes_eq r.name.now name) rows)
same_row [] name = refl
same_row (row ∷ rows) name = go (bytes_eq row.name.now name) (same_row rows name)
  where
    go : (b : Bool) → row_named (map field_of_row rows) name ≡ option_map field_of_row (find (λ (r : FieldRow). bytes_eq r.name.now name) rows)
        → cond b (Some (field_of_row row)) (row_named (map field_of_row rows) name)
        ≡ option_map field_of_row (cond b (Some row) (find (λ (r : FieldRow). bytes_eq r.name.now name) rows))
    go true more = refl
    go false more = more

-- where no row is found the definition has no row
pub none_row : (rows : List FieldRow) (name : List ℕ) (found : Option FieldRow) (fields : List NamedField)
    → map field_of_row rows ≡ fields → found ≡ find (λ (r : FieldRow). bytes_eq r.name.now name) rows
    → IfNone found (row_named fields name ≡ None)
none_row rows name (Some row) fields table is = tt
none_row rows name None fields table is =
    ap (λ (fs : List NamedField). row_named fs name) (sym table) ∙ same_row rows name
    ∙ ap (λ (o : Option FieldRow). option_map field_of_row o) (sym is)

-- the row that is found stands for the one of the definition
pub some_row : (rows : List FieldRow) (name : List ℕ) (found : Option FieldRow) (fields : List NamedField)
    → map field_of_row rows ≡ fields → found ≡ find (λ (r : FieldRow). bytes_eq r.name.now name) rows
    → IfSome found (λ (r : FieldRow). row_named fields name ≡ Some (field_of_row r))
some_row rows name None fields table is = tt
some_row rows name (Some row) fields table is =
    ap (λ (fs : List NamedField). row_named fs name) (sym table) ∙ same_row rows name
    ∙ ap (λ (o : Option FieldRow). option_map field_of_row o) (sym is)

-- whether the mark does not stand in the text
lacks : ℕ → List ℕ → Bool
lacks mark [] = true
lacks mark (x ∷ xs) = cond (x == mark) false (lacks mark xs)

-- a text that lacks a mark does not begin with it, and the rest of the text lacks it too
lacks_head : (mark x : ℕ) (b rest : Bool) → (x == mark) ≡ b → cond b false rest ≡ true → (x ≢ mark) × (rest ≡ true)
lacks_head mark x true rest is all = cc
lacks_head mark x false rest is all = (λ same. cc (eq-eqb x mark same), all)

-- a text that lacks a mark has it at no place
lacks_free : (mark : ℕ) (text : List ℕ) → lacks mark text ≡ true → IsFreeOf mark text
unfolding lacks
lacks_free mark [] all i h = absurd (omega arith)
lacks_free mark (x ∷ xs) all zero h = (lacks_head mark x (x == mark) (lacks mark xs) refl all).0
lacks_free mark (x ∷ xs) all (suc i) h = lacks_free mark xs (lacks_head mark x (x == mark) (lacks mark xs) refl all).1 i (omega arith)

-- whether no name has a dot, and nothing stands more than 64 times
plain : List NamedField → Bool
plain [] = true
plain (row ∷ rows) = cond (lacks 46 row.name) (cond (nat_le row.count 64) (plain rows) false) false

-- in a table whose names have no dots and whose counts are at most 64, the row of a name is such a row
plain_row : (rows : List NamedField) (name : List ℕ) (row : NamedField)
    → plain rows ≡ true → row_named rows name ≡ Some row → IsFreeOf 46 name × (row.count ≤ 64)
unfolding plain
plain_row [] name row all is = cc
plain_row (first ∷ rows) name row all is =
    go (lacks 46 first.name) (nat_le first.count 64) (bytes_eq first.name name) (plain_row rows name row)
    refl refl refl all is
  where
    go : (a b found : Bool) → (plain rows ≡ true → row_named rows name ≡ Some row → IsFreeOf 46 name × (row.count ≤ 64))
        → lacks 46 first.name ≡ a → nat_le first.count 64 ≡ b → bytes_eq first.name name ≡ found
        → cond a (cond b (plain rows) false) false ≡ true → cond found (Some first) (row_named rows name) ≡ Some row
        → IsFreeOf 46 name × (row.count ≤ 64)
    go false b found more la lb lf all is = cc
    go true false found more la lb lf all is = cc
    go true true true more la lb lf all is =
        let same : first ≡ row = cc in
        let named : first.name ≡ name = (bytes_eq-Decides first.name name).0 lf in (
          subst (IsFreeOf 46) named (lacks_free 46 first.name la),
          subst (λ (r : NamedField). r.count ≤ 64) same (leb-true first.count 64 lb),
        )
    go true true false more la lb lf all is = more all is

-- the name of a row has no dot, and what goes by it stands at most 64 times
pub row_plain : (hook : Hook) (name : List ℕ) (row : NamedField)
    → row_named (fields_of hook) name ≡ Some row → IsFreeOf 46 name × (row.count ≤ 64)
unfolding plain lacks
row_plain Place name row is = plain_row (fields_of Place) name row refl is
row_plain Preempt name row is = plain_row (fields_of Preempt) name row refl is
row_plain Pull name row is = plain_row (fields_of Pull) name row refl is

-- what follows from there being none, where nothing is found
pub none_then : {A : Type 0} {P Q : Type 0} (found : Option A) → IfNone found P → (P → Q) → IfNone found Q
none_then (Some a) none then = tt
none_then None none then = then none

-- where a row names no single field its name goes for none
pub none_by_name : (hook : Hook) (name : List ℕ) (row : NamedField)
    → row_named (fields_of hook) name ≡ Some row → ((field : Field) → ¬ IsSingle row field)
    → (field : Field) → ¬ GoesByName hook name field
none_by_name hook name row named none field by =
    let same : by.row ≡ row = cc (by.named, named) in
    none field (subst (λ (r : NamedField). IsSingle r field) same by.single)

-- where the digits are no number of 64 bits they number no field
pub none_by_digits : (hook : Hook) (stem digits : List ℕ) → ((number : ℕ) → number < 2 ^ 64 → ¬ IsNumber digits number)
    → (field : Field) → ¬ HasNumber hook stem digits field
none_by_digits hook stem digits none field has =
    let few = (row_plain hook stem has.row has.named).1 in
    let below = has.numbered.below in
    none has.number (omega (arith, few, below)) has.is_number

-- where a row has no field of the number, no field is found
pub none_by_number : (hook : Hook) (stem digits : List ℕ) (row : NamedField) (number : ℕ)
    → row_named (fields_of hook) stem ≡ Some row → IsNumber digits number
    → ((field : Field) → field.at < 2 ^ 64 → ¬ IsNumbered row number field) → (field : Field) → field.at < 2 ^ 64
    → ¬ HasNumber hook stem digits field
none_by_number hook stem digits row number named is none field small has =
    let same : has.row ≡ row = cc (has.named, named) in
    let one : has.number ≡ number = number_once digits has.number number has.is_number is in
    none field small
    (subst (λ (n : ℕ). IsNumbered row n field) one (subst (λ (r : NamedField). IsNumbered r has.number field) same has.numbered))

-- a name without a dot goes by a name, if for any field
pub none_by_dot : (hook : Hook) (name : List ℕ) → IsFreeOf 46 name → ((field : Field) → ¬ GoesByName hook name field)
    → (field : Field) → ¬ GoesBy hook name field
none_by_dot hook name free none field (inl by) = none field by
none_by_dot hook name free none field (inr by) = free_cut 46 name by.stem by.digits free by.splits

-- a name with a dot goes by a number, if for any field
pub none_around_dot : (hook : Hook) (name stem digits : List ℕ)
    → IsSplitAtMark 46 name stem digits → ((field : Field) → field.at < 2 ^ 64 → ¬ HasNumber hook stem digits field)
    → (field : Field) → field.at < 2 ^ 64
    → ¬ GoesBy hook name field
none_around_dot hook name stem digits cut none field small (inl by) =
    free_cut 46 name stem digits (row_plain hook name by.row by.named).0 cut
none_around_dot hook name stem digits cut none field small (inr by) =
    let once = cut_once 46 name by.stem by.digits stem digits by.splits cut in
    none field small
    (subst (λ (d : List ℕ). HasNumber hook stem d field) once.1 (subst (λ (s : List ℕ). HasNumber hook s by.digits field) once.0 by.has))

-- two fields of a name stand in one place
pub goes_once : (hook : Hook) (name : List ℕ) (f g : Field) → GoesBy hook name f → GoesBy hook name g → (f.at ≡ g.at) × (f.width ≡ g.width)
goes_once hook name f g (inl a) (inl b) =
    let same : a.row ≡ b.row = cc (a.named, b.named) in (
      a.single.at ∙ ap (λ (r : NamedField). r.at) same ∙ sym b.single.at,
      a.single.width ∙ ap (λ (r : NamedField). r.width) same ∙ sym b.single.width,
    )
goes_once hook name f g (inl a) (inr b) = absurd (free_cut 46 name b.stem b.digits (row_plain hook name a.row a.named).0 b.splits)
goes_once hook name f g (inr a) (inl b) = absurd (free_cut 46 name a.stem a.digits (row_plain hook name b.row b.named).0 a.splits)
goes_once hook name f g (inr a) (inr b) =
    let once = cut_once 46 name a.stem a.digits b.stem b.digits a.splits b.splits in
    let stems : a.stem ≡ b.stem = once.0 in
    let named : row_named (fields_of hook) b.stem ≡ Some a.has.row =
    ap (λ (s : List ℕ). row_named (fields_of hook) s) (sym stems) ∙ a.has.named in
    let same : a.has.row ≡ b.has.row = cc (named, b.has.named) in
    let number : a.has.number ≡ b.has.number =
    number_once b.digits a.has.number b.has.number (subst (λ (d : List ℕ). IsNumber d a.has.number) once.1 a.has.is_number)
    b.has.is_number in (
      a.has.numbered.at ∙ ap (λ (r : NamedField). r.at + a.has.number * r.apart) same
          ∙ ap (λ (n : ℕ). b.has.row.at + n * b.has.row.apart) number ∙ sym b.has.numbered.at,
      a.has.numbered.width ∙ ap (λ (r : NamedField). r.width) same ∙ sym b.has.numbered.width,
    )

-- no context is longer than 296 bytes
pub context_small : (hook : Hook) (version : Version) → context_length_of hook version ≤ 296
context_small Place First = omega arith
context_small Place Second = omega arith
context_small Preempt version = omega arith
context_small Pull version = omega arith

-- where no field whose place fits 64 bits goes by the name there is no field of that name
pub none_within : (hook : Hook) (version : Version) (name : List ℕ)
    → ((field : Field) → field.at < 2 ^ 64 → ¬ GoesBy hook name field)
    → (field : Field) → ¬ IsField hook version name field
none_within hook version name none field is =
    let within = is.within in
    let small = context_small hook version in
    none field (omega (arith, within, small)) is.named

-- where the one field that goes by the name ends outside of the context there is no field of that name
pub none_outside : (hook : Hook) (version : Version) (name : List ℕ) (found : Field)
    → GoesBy hook name found → context_length_of hook version < found.at + bytes_in found.width
    → (field : Field) → ¬ IsField hook version name field
none_outside hook version name found goes out field is =
    let once = goes_once hook name field found is.named goes in
    let at : field.at ≡ found.at = once.0 in
    let wide : bytes_in field.width ≡ bytes_in found.width = ap bytes_in once.1 in
    let within = is.within in
    omega (arith, at, wide, within, out)
