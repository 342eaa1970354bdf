use Rattle.std.proofs.Common.{◌≡◌, ◌≢◌, ℤ, true, false, Option, Some, None, is_some, MatchOption, refl, sym, subst, arith, rules, to_z, of_z, w32}
use mir.Val.{SFits}
use Rattle.std.specs.Ordering.{int_eq}
use Rattle.std.proofs.lemmas.Bool.{false_from_ne_true}
use Rattle.std.proofs.lemmas.Bool.Decides.{Decides-int_eq}
use Rattle.std.proofs.lemmas.Int.{ints}
use Rattle.bq_bpf.specs.declared.helper.Helper.{Helper}
use Rattle.bq_bpf.specs.declared.helper.Helper.TheVariants.{Lookup, Update, Now, Processor, AddCounter, ReadCounter}
use Rattle.bq_bpf.specs.Helpers.{number_of_helper}
use Rattle.bq_verify.specs.Faults.{is_helper}
use Rattle.bq_verify.proofs.single.is_known_helper.Goals as goal

-- each helper is in the table
in_table : (h : Helper) → true ≡ is_helper (number_of_helper h)
in_table Lookup = refl
in_table Update = refl
in_table Now = refl
in_table Processor = refl
in_table AddCounter = refl
in_table ReadCounter = refl

-- a number that is no helper's is not that of this helper
not_that : (n : ℤ) → ((h : Helper) → number_of_helper h ≢ n) → (h : Helper) → int_eq n (number_of_helper h) ≡ false
not_that n none h = false_from_ne_true (int_eq n (number_of_helper h)) (λ is. none h (sym ((Decides-int_eq n (number_of_helper h)).0 is)))

-- the table has the numbers of the helpers, and no other
known_by : (found : Option Helper) (n : ℤ) → MatchOption found ((h : Helper) → number_of_helper h ≢ n) (λ h. number_of_helper h ≡ n)
    → is_some found ≡ is_helper n
known_by (Some h) n is = subst (λ (z : ℤ). true ≡ is_helper z) is (in_table h)
known_by None n none =
    let other = not_that n none in
    rw (other Lookup, other Update, other Now, other Processor, other AddCounter, other ReadCounter) refl

pub returns : goal.returns
returns c =
    let fits : SFits w32 c.args.helper = search rules in
    let same : to_z w32 (of_z w32 c.args.helper) ≡ c.args.helper = omega (arith, ints) in
    rw c.is_some.ensures (known_by c.of.result c.args.helper (rw same at c.of.ensures))
