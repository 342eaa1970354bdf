-- What was read, field after field.
use Rattle.std.proofs.Common.{◌≡◌, ℕ, suc, ◌+◌, ◌-◌, ◌<◌, ◌≤◌, Bool, true, false, cond, ltb, List, length, drop, Result, Ok, Err, refl, sym, ap, ◌∙◌, arith, length-drop}
use Rattle.std.proofs.lemmas.Bool.{ltb-false}
use Rattle.byteorder.specs.Endian.{little_number}
use Rattle.bq_load.specs.declared.fault.LoadFault.{LoadFault}
use Rattle.bq_load.specs.declared.fault.LoadFault.TheVariants as fault
use Rattle.bq_load.specs.Reading.{◌>>=◌, read_number, shape_at, shapes_at, is_shape}

-- the value of a step that did not fail
pub bind_ok : {A B : Type 0} (r : Result A LoadFault) (f : A → Result B LoadFault) (y : B)
    → (r >>= f) ≡ Ok y → (x : A) × (r ≡ Ok x) × (f x ≡ Ok y)
bind_ok (Ok x) f y e = (x, refl, e)
bind_ok (Err d) f y e = absurd cc

-- the result of a reading that gave this value
abbrev done : {A : Type 0} → A → Result A LoadFault
done x = Ok x

-- two results that are the same success have the same value
pub ok_is : {A : Type 0} (x y : A) → done x ≡ done y → x ≡ y
ok_is x y e = cc

-- a test that found nothing
pub guard_ok : {A : Type 0} (b : Bool) (d : LoadFault) (x y : A) → cond b (Err d) (Ok x) ≡ Ok y → (b ≡ false) × (x ≡ y)
guard_ok true d x y e = absurd cc
guard_ok false d x y e = (refl, cc)

-- a test that was met
pub met_ok : {A : Type 0} (b : Bool) (d : LoadFault) (x y : A) → cond b (Ok x) (Err d) ≡ Ok y → (b ≡ true) × (x ≡ y)
met_ok true d x y e = (refl, cc)
met_ok false d x y e = absurd cc

-- what a number that was read is
pub record IsNumber (width : ℕ) (bytes : List ℕ) (n : ℕ) (rest : List ℕ) : Type 0 where
  pub long : width ≤ length bytes
  pub is : little_number width bytes ≡ n
  pub after : drop width bytes ≡ rest

-- a number that was read is what its bytes spell, they are all there, and what was left follows them
pub number_ok : (width : ℕ) (bytes : List ℕ) (n : ℕ) (rest : List ℕ) → read_number width bytes ≡ Ok (n, rest) → IsNumber width bytes n rest
unfolding read_number
number_ok width bytes n rest e =
    let g = guard_ok (ltb (length bytes) width) fault.Cut (little_number width bytes, drop width bytes) (n, rest) e in
    record {
      long = ltb-false _ _ g.0;
      is = ap (λ (p : ℕ × List ℕ). p.0) g.1;
      after = ap (λ (p : ℕ × List ℕ). p.1) g.1;
    }

-- a shape has four bytes
pub shape_length : (bytes rest : List ℕ) → shape_at bytes ≡ Ok rest → length rest + 4 ≡ length bytes
unfolding shape_at
shape_length bytes rest e =
    let a =
    bind_ok (read_number 2 bytes)
    (λ size. read_number 2 size.1 >>= λ entries. cond (is_shape size.0 entries.0) (Ok entries.1) (Err fault.Shape)) rest e in
    let b = bind_ok (read_number 2 a.0.1) (λ entries. cond (is_shape a.0.0 entries.0) (Ok entries.1) (Err fault.Shape)) rest a.2 in
    let g = met_ok (is_shape a.0.0 b.0.0) fault.Shape b.0.1 rest b.2 in
    let first = number_ok 2 bytes a.0.0 a.0.1 a.1 in
    let second = number_ok 2 a.0.1 b.0.0 b.0.1 b.1 in
    omega (
      arith,
      first.long,
      second.long,
      ap length first.after,
      ap length second.after,
      ap length g.1,
      length-drop 2 bytes,
      length-drop 2 a.0.1,
    )

-- reading the shapes goes on by one more shape
pub shapes_on : (count i : ℕ) (rest after bytes : List ℕ) → i < count → shape_at rest ≡ Ok after
    → shapes_at (count - i) rest ≡ shapes_at count bytes
    → shapes_at (count - (i + 1)) after ≡ shapes_at count bytes
unfolding shapes_at
shapes_on count i rest after bytes lt h so_far =
    let k : count - i ≡ suc (count - (i + 1)) = omega arith in
    let one : shapes_at (count - i) rest ≡ shapes_at (count - (i + 1)) after = rw (k, h) refl in
    sym one ∙ so_far

-- a fault of a shape is one of the shapes
pub shapes_fail : (count i : ℕ) (rest bytes : List ℕ) (e : LoadFault)
    → i < count → shape_at rest ≡ Err e → shapes_at (count - i) rest ≡ shapes_at count bytes
    → shapes_at count bytes ≡ Err e
unfolding shapes_at
shapes_fail count i rest bytes e lt h so_far =
    let k : count - i ≡ suc (count - (i + 1)) = omega arith in
    let one : shapes_at (count - i) rest ≡ Err e = rw (k, h) refl in
    sym so_far ∙ one

-- once no shape is left the shapes are read
pub shapes_end : (count i : ℕ) (rest bytes : List ℕ) → count ≤ i → shapes_at (count - i) rest ≡ shapes_at count bytes
    → shapes_at count bytes ≡ Ok rest
unfolding shapes_at
shapes_end count i rest bytes le so_far =
    let k : count - i ≡ 0 = omega arith in
    let one : shapes_at (count - i) rest ≡ Ok rest = rw k refl in
    sym so_far ∙ one
