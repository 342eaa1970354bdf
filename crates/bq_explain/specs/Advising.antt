-- What advice goes by: the argument or the register at fault.
use Rattle.std.specs.Prelude.{◌≡◌, ℕ}
use Rattle.bq_needs.specs.declared.arguments.Argument.{Argument}
use Rattle.bq_needs.specs.declared.arguments.Argument.TheVariants as argument
use Rattle.bq_explain.specs.declared.advice.Advice.{Advice}
use Rattle.bq_explain.specs.declared.advice.Advice.TheVariants.{Compare, Give, GiveFirstMap, GiveValue, Know, OtherSide, Test, UseBefore}

-- advice on an argument of a helper is on that one, or on a register of which nothing is known
abbrev pub AdvisesOn : Argument → Advice → Type 0
AdvisesOn a (Give given) = given ≡ a
AdvisesOn a (GiveValue bytes) = a ≡ argument.Value
AdvisesOn a GiveFirstMap = a ≡ argument.Map
AdvisesOn a (Know missing) = Unit {0}
AdvisesOn a other = ⊥

-- if advice names a register that is a pointer, it is this one
abbrev pub NamesRegister : ℕ → Advice → Type 0
NamesRegister r (Test register) = register ≡ r
NamesRegister r (UseBefore register) = register ≡ r
NamesRegister r (OtherSide register) = register ≡ r
NamesRegister r (Compare register) = register ≡ r
NamesRegister r other = Unit {0}
