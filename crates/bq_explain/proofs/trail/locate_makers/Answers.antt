use Rattle.std.proofs.Common.{◌≡◌, ◌++◌, ◌∷◌, [], List, Option, ◌⊎◌, inl, inr, subst}
use Rattle.std.specs.Prelude.{Contains}
use Rattle.std.proofs.lemmas.List.Elements.{Contains-get_or, Contains-push_cases}
use Rattle.bq_insn.specs.declared.Insn.{Insn}
use Rattle.bq_explain.specs.Explained.{AreOf, IsMadeBy}
use Rattle.bq_explain.specs.declared.makers.Maker.{Maker}
use Rattle.bq_explain.specs.declared.trail.RegisterMaker.{RegisterMaker}
use Rattle.bq_explain.proofs.trail.locate_makers.Goals.{in-Some+in_ok-push, in_default}
use Rattle.bq_explain.proofs.trail.locate_makers.Goals as goal

-- one more of them
one_more : (slots : List (Option Insn)) (makers : List Maker) (maker : Maker) (old new : List RegisterMaker)
    (one : RegisterMaker)
    → Contains makers maker → IsMadeBy slots maker one → new ≡ old ++ one ∷ [] → AreOf slots makers old
    → AreOf slots makers new
one_more slots makers maker old new one in_makers of is were other there =
    by (Contains-push_cases old one other (subst (λ (l : List RegisterMaker). Contains l other) is there))
  where
    by : Contains old other ⊎ (one ≡ other) → (m : Maker) × Contains makers m × IsMadeBy slots m other
    by (inl earlier) = were other earlier
    by (inr same) = (maker, in_makers, subst (λ (o : RegisterMaker). IsMadeBy slots maker o) same of)

pub loop-maker-preserved : goal.loop-maker-preserved
loop-maker-preserved c =
    elim c.match-locate_maker.branch [
      | in-Some+in_ok-push w ↦
          one_more c.args.walk.now.slots.now c.args.makers.now _ c.loop-maker.made.items c.match-locate_maker.made.items w.in-Some.one
          (Contains-get_or c.args.makers.now c.loop-maker.maker-index _ c.loop-maker-test.true) w.in-Some.ensures
          (rw w.made-is w.in_ok-push.ensures.items) c.loop-maker.invariant
      | in_default w ↦ rw w.made-is c.loop-maker.invariant
    ]
