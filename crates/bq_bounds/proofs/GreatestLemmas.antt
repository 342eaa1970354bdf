-- What is kept of some charges is the greatest.
use Rattle.std.proofs.Common.{◌≡◌, ℕ, ◌≤◌, Bool, true, false, cond, leb, List, [], ◌∷◌, suc, refl, arith}
use Rattle.std.specs.Prelude.{Contains}
use Rattle.std.specs.List.{AllByRecursion}
use Rattle.std.proofs.lemmas.Bool.Decides.{nat_tests}
use Rattle.bq_bounds.specs.declared.charge.Charge.{Charge}
use Rattle.bq_bounds.specs.Watches.{greater, greatest_of}
use Rattle.bq_bounds.specs.Nearness.{KeepsTheGreatest}

-- charges of which none is above a number are not above a greater number
weaker : (m n : ℕ) (cs : List Charge) → m ≤ n → AllByRecursion (λ c. c.difference ≤ m) cs → AllByRecursion (λ c. c.difference ≤ n) cs
weaker m n [] le h = tt
weaker m n (c ∷ cs) le h = (let k = h.0 in omega arith, weaker m n cs le h.1)

-- a charge of a list is in it with one more in front
later : (c d : Charge) (cs : List Charge) → Contains cs d → Contains (c ∷ cs) d
later c d cs h = (suc h.0, let k = h.1 in omega arith, h.2)

-- a charge of a list, where no other there has a greater difference
abbrev IsGreatestOf : List Charge → Charge → Type 0
IsGreatestOf cs g = Contains cs g × AllByRecursion (λ d. d.difference ≤ g.difference) cs

-- of one more charge and the greatest before it, the one that is kept is the greatest of all
one_more : (c g : Charge) (past : List Charge) (b : Bool) → leb c.difference g.difference ≡ b → IsGreatestOf past g
    → IsGreatestOf (c ∷ past) (cond b g c)
one_more c g past true e h = (later c g past h.0, (grind (arith, nat_tests), h.1))
one_more c g past false e h =
    let lt : g.difference ≤ c.difference = grind (arith, nat_tests) in
    ((0, omega arith, refl), (omega arith, weaker g.difference c.difference past lt h.1))

-- what is kept of some charges is one of them, and none has a greater difference
pub keeps_the_greatest : KeepsTheGreatest
keeps_the_greatest c [] = ((0, omega arith, refl), (omega arith, tt))
keeps_the_greatest c (d ∷ past) =
    let g = greater (greatest_of past) d in
    one_more c g (d ∷ past) (leb c.difference g.difference) refl (keeps_the_greatest d past)
