use Rattle.std.proofs.Common.{arith, rules}
use Rattle.bq_installed.proofs.AskLemmas.{none_asked, remembered, asked}
use Rattle.bq_installed.proofs.installed.Installed.ask.Goals as goal

pub unreachable-requires : goal.unreachable-requires
unreachable-requires g c =
    none_asked c.self.inside.generation c.self.inside.equipped c.args.self.now c.self.view_is c.in_default.is c.requires.there

pub invariant_of-self : goal.invariant_of-self
invariant_of-self g c = (
  c.ask-done.ensures.equipped,
  remembered c.self.inside.generation c.self.inside.equipped c.in-Some.equipped c.ask-done.new.self c.args.self.now
      c.args.context.now c.args.env.now c.args.env.processor c.ask-done.new.scratch c.ask-done.result c.self.view_is
      c.in-Some.is c.self.invariant.0 c.requires.context (λ i. omega (arith, c.type_inv.context i)) (search rules)
      (search rules) c.ask-done.ensures.answers c.ask-done.ensures.within c.ask-done.ensures.policy,
)

pub returns : goal.returns
returns g c =
    let k =
    asked c.self.inside.generation c.self.inside.equipped c.in-Some.equipped c.ask-done.new.self c.args.self.now
    c.args.context.now c.args.env.now c.args.env.processor c.ask-done.new.scratch c.ask-done.result
    c.self.view_is c.in-Some.is c.ask-done.ensures.answers c.ask-done.ensures.within c.ask-done.ensures.equipped.1
    c.ask-done.ensures.policy in
    record { answers = k.0; within = k.1; shapes = k.2; stays = k.3; board = c.ask-done.ensures.board }
