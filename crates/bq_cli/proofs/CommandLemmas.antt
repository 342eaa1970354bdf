-- A command by its name, and the values that were found for it.
use Rattle.std.proofs.Common.{◌≡◌, ◌∙◌, ℕ, List, Option, Result, Ok, Err, Some, None, ap, sym, subst, arith}
use Rattle.std.specs.Prelude.{IfOk, option_map, codes, slice_index_or}
use Rattle.std.proofs.lemmas.Option.{same_Some}
use Rattle.clap.specs.Words.{Row, Text}
use Rattle.bq_cli.specs.Commands.{HasValues, command_name}
use Rattle.bq_cli.specs.Words.{AreParWords}
use Rattle.bq_cli.specs.declared.command.Command.{Command}
use Rattle.bq_cli.specs.declared.command.Command.TheVariants.{Asm, Check, Dis, Import, Par, Replay, Run, Simulate, Timeline}
use Rattle.bq_cli.specs.declared.par.ParWords.{ParWords}

-- the first letter of a name
abbrev first : Text → ℕ
first text = slice_index_or text 0 0

-- the name and the rows of an entry, read one by one or together, are the same
pub name_and_rows_of_entry : {B : Type 0} (o : Option B) (f : B → Text) (g : B → List Row) (word name : Text)
    (rows rows' : List Row)
    → option_map f o ≡ Some word
    → option_map (λ (p : Text × List Row). p.1) (option_map {U = Text × List Row} (λ b. (f b, g b)) o) ≡ Some rows'
    → option_map {U = Text × List Row} (λ b. (f b, g b)) o ≡ Some (name, rows)
    → (name ≡ word) × (rows ≡ rows')
name_and_rows_of_entry None f g word name rows rows' a b e = absurd (cc)
name_and_rows_of_entry (Some x) f g word name rows rows' a b e =
    let pair = same_Some {A = Text × List Row} (f x, g x) (name, rows) e in
    let names : f x ≡ name = ap (λ (p : Text × List Row). p.0) pair in
    let same : g x ≡ rows = ap (λ (p : Text × List Row). p.1) pair in
    (sym names ∙ same_Some (f x) word a, sym same ∙ same_Some (g x) rows' b)

-- a command with the name of `par` is `par`, with the values that were found for it
pub only_par_has_its_name : (rows rows' : List Row) (c : Command) (Out : Type 0)
    → command_name c ≡ codes "par" → rows ≡ rows' → HasValues rows c → ((p : ParWords) → AreParWords rows' p → Out)
    → Out
only_par_has_its_name rows rows' (Asm w) Out is same given k = let letters : 97 ≡ 112 = ap first is in absurd (omega (arith, letters))
only_par_has_its_name rows rows' (Check w) Out is same given k = let letters : 99 ≡ 112 = ap first is in absurd (omega (arith, letters))
only_par_has_its_name rows rows' (Dis w) Out is same given k = let letters : 100 ≡ 112 = ap first is in absurd (omega (arith, letters))
only_par_has_its_name rows rows' (Run w) Out is same given k = let letters : 114 ≡ 112 = ap first is in absurd (omega (arith, letters))
only_par_has_its_name rows rows' (Import w) Out is same given k = let letters : 105 ≡ 112 = ap first is in absurd (omega (arith, letters))
only_par_has_its_name rows rows' (Par p) Out is same given k = k p (subst (λ r. AreParWords r p) same given)
only_par_has_its_name rows rows' (Replay w) Out is same given k = let letters : 114 ≡ 112 = ap first is in absurd (omega (arith, letters))
only_par_has_its_name rows rows' (Timeline w) Out is same given k = let letters : 116 ≡ 112 = ap first is in absurd (omega (arith, letters))
only_par_has_its_name rows rows' (Simulate w) Out is same given k = let letters : 115 ≡ 112 = ap first is in absurd (omega (arith, letters))

-- what holds anyway holds of a value
pub IfOk-anyhow : {T E P : Type 0} (r : Result T E) → P → IfOk r (λ _. P)
IfOk-anyhow (Ok x) p = p
IfOk-anyhow (Err e) p = tt
