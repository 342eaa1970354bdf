-- The lines of a text say one head.
use Rattle.std.proofs.Common.{◌≡◌, ℕ, List, [], ◌∷◌, map, Some, None, Option, refl, sym, ap, ◌∙◌, option_map, Global}
use Rattle.std.specs.declared.vec.Vec.{Vec}
use Rattle.bq_insn.proofs.OptionLemmas.{some_same}
use Rattle.bq_bpf.specs.declared.shape.MapShape.{MapShape}
use Rattle.bq_load.proofs.UniqueLemmas.{same_shape}
use Rattle.bq_policy_file.specs.ShapesText.{numbers_of}
use Rattle.bq_hooks.specs.Hooks.{hook_of, version_of}
use Rattle.bq_hooks.specs.declared.hook.Hook.{Hook}
use Rattle.bq_hooks.specs.declared.hook.Version.{Version}
use Rattle.bq_policy_file.specs.declared.head.Head.{Head}
use Rattle.bq_policy_file.specs.declared.mark.Key.TheVariants as key
use Rattle.bq_policy_file.specs.Files.{shapes_in_head}
use Rattle.bq_policy_file.specs.Heads.{IsStated, NamesMapShapes, StatesHead}
use Rattle.bq_policy_file.specs.Marks.{values}

-- what is said of a key, seen by a function on which two values of one word agree
one_stated : {A B : Type 0} (see : A → B) (P : List ℕ → A → Type 0)
    → ((word : List ℕ) (a b : A) → P word a → P word b → see a ≡ see b)
    → (ws : List (List ℕ)) (x y : Option A) → IsStated P ws x → IsStated P ws y
    → option_map see x ≡ option_map see y
one_stated see P one [] None None h k = refl
one_stated see P one [] None (Some b) h k = absurd k
one_stated see P one [] (Some a) y h k = absurd h
one_stated see P one (w ∷ []) None y h k = absurd h
one_stated see P one (w ∷ []) (Some a) None h k = absurd k
one_stated see P one (w ∷ []) (Some a) (Some b) h k = ap (λ v. Some v) (one w a b h k)
one_stated see P one (w ∷ v ∷ ws) x y h k = absurd h

-- lists of pairs that are equal begin with the same pair, and go on with the same:
same_pair : (x y : ℕ × ℕ) (xs ys : List (Option (ℕ × ℕ))) → Some x ∷ xs ≡ Some y ∷ ys → x ≡ y
same_pair x y xs ys h = cc

later_same : (x y : Option (ℕ × ℕ)) (xs ys : List (Option (ℕ × ℕ))) → x ∷ xs ≡ y ∷ ys → xs ≡ ys
later_same x y xs ys h = cc

-- shapes are determined by their numbers
same_shapes : (a b : List MapShape) → map numbers_of a ≡ map numbers_of b → a ≡ b
same_shapes [] [] h = refl
same_shapes [] (t ∷ b) h = cc
same_shapes (s ∷ a) [] h = cc
same_shapes (s ∷ a) (t ∷ b) h =
    let pair = same_pair (s.value_size, s.entries) (t.value_size, t.entries) (map numbers_of a) (map numbers_of b) h in
    let size : s.value_size ≡ t.value_size = ap (λ (x : ℕ × ℕ). x.0) pair in
    let entries : s.entries ≡ t.entries = ap (λ (x : ℕ × ℕ). x.1) pair in
    let rest : map numbers_of a ≡ map numbers_of b = later_same (numbers_of s) (numbers_of t) (map numbers_of a) (map numbers_of b) h in
    λ i. same_shape s t size entries i ∷ same_shapes a b rest i

-- a value that is there or not, seen as it is
as_is : {A : Type 0} (x : Option A) → option_map (λ (a : A). a) x ≡ x
as_is None = refl
as_is (Some a) = refl

-- two heads that the same lines say have one hook
pub one_hook : (ls : List (List ℕ)) (a b : Head) → StatesHead ls a → StatesHead ls b → a.hook ≡ b.hook
one_hook ls a b h k =
    sym (as_is a.hook)
    ∙ one_stated (λ (x : Hook). x) (λ word hook. hook_of word ≡ Some hook) (λ word x y p q. some_same (hook_of word) x y p q)
    (values key.Hook ls) a.hook b.hook h.hook k.hook
    ∙ as_is b.hook

-- two heads that the same lines say have one version
pub one_format : (ls : List (List ℕ)) (a b : Head) → StatesHead ls a → StatesHead ls b → a.format ≡ b.format
one_format ls a b h k =
    sym (as_is a.format)
    ∙ one_stated (λ (x : Version). x) (λ word version. version_of word ≡ Some version)
    (λ word x y p q. some_same (version_of word) x y p q) (values key.Format ls) a.format b.format h.format k.format
    ∙ as_is b.format

-- two heads that the same lines say have the same maps
pub one_maps : (ls : List (List ℕ)) (a b : Head) → StatesHead ls a → StatesHead ls b → shapes_in_head a ≡ shapes_in_head b
one_maps ls a b h k =
    one_stated (λ (x : Vec MapShape Global). x.items) NamesMapShapes
    (λ word x y p q. same_shapes x.items y.items (sym p.each ∙ q.each)) (values key.Maps ls) a.maps b.maps h.maps k.maps
