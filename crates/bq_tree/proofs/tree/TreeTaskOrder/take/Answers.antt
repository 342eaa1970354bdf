use Rattle.std.proofs.Common.{rules, ◌≡◌, ◌+◌, ◌-◌, ◌∷◌, List, Some, None, length, length-append, ap, sym, ◌∙◌, arith}
use Rattle.bq_disc.specs.Tasks.{Task, find_task, without}
use Rattle.bq_disc.specs.Chains.{task_of}
use Rattle.bq_tree.specs.Trees.{in_order_behind}
use Rattle.bq_disc.proofs.QueueLemmas.{length-few, find_task-without_same}
use Rattle.bq_tree.proofs.HeightLemmas.{low_of_many}
use Rattle.bq_tree.proofs.SoundLemmas.{Takes-id}
use Rattle.bq_tree.proofs.IndexLemmas.{sound_taken, leads_on}
use Rattle.bq_tree.proofs.tree.TreeTaskOrder.take.Goals as goal

pub take_from-requires : goal.take_from-requires
take_from-requires g c =
    let s = c.self.invariant in
    let few = length-few (in_order_behind c.self.inside.root) s.distinct s.small in
    let low = low_of_many g.S.Summary.knows c.self.inside.root s.tree few in
    record {
      tree = search rules;
      rising = search rules;
      low = omega (arith, low);
      few = length-few (in_order_behind c.self.inside.root) c.self.invariant.distinct c.self.invariant.small;
    }

pub invariant_of-self-2 : goal.invariant_of-self-2
invariant_of-self-2 g c =
    let s = c.self.invariant in
    let taken = c.in-Some.ensures.taken in
    let t = task_of c.in-Some.taken.value in
    let all = in_order_behind c.self.inside.root in
    let one : c.self.inside.len ≡ c.self.inside.len - 1 + 1 =
    omega (arith, s.len_is, ap length taken.4, length-append taken.0 (t ∷ taken.1)) in
    let leads =
    leads_on all (in_order_behind c.take_from.new.link) c.self.inside.least c.time_of-v.result c.args.id t s.leads taken
    (sym c.has_id.ensures ∙ c.if-has_id.false) in
    sound_taken g.S.Summary.knows c.self.inside.len (c.self.inside.len - 1) c.self.inside.root c.take_from.new.link
    c.self.inside.least c.self.inside.least c.self.inside.times c.time_of-v.result c.args.id t s one
    c.in-Some.ensures.tree taken leads s.high

pub returns-in_default : goal.returns-in_default
returns-in_default g c =
    let both =
    Takes-id c.time_of-v.result c.args.id (in_order_behind c.self.inside.root) None (in_order_behind c.take_from.new.link)
    c.self.invariant.distinct c.time_of-v.ensures c.in_default.ensures.taken in
    record {
      taken = both.0 ∙ ap (λ (xs : List Task). find_task c.args.id xs) c.self.view_is;
      lone = search rules;
      rest = both.1 ∙ ap (λ (xs : List Task). without c.args.id xs) c.self.view_is;
      gone =
          ap (λ (xs : List Task). find_task c.args.id xs) both.1
          ∙ find_task-without_same c.args.id (in_order_behind c.self.inside.root) c.self.invariant.distinct;
    }

pub returns : goal.returns
returns g c =
    let both =
    Takes-id c.time_of-v.result c.args.id (in_order_behind c.self.inside.root) (Some (task_of c.in-Some.taken.value))
    (in_order_behind c.take_from.new.link) c.self.invariant.distinct c.time_of-v.ensures c.in-Some.ensures.taken in
    record {
      taken = both.0 ∙ ap (λ (xs : List Task). find_task c.args.id xs) c.self.view_is;
      lone = search rules;
      rest = both.1 ∙ ap (λ (xs : List Task). without c.args.id xs) c.self.view_is;
      gone =
          ap (λ (xs : List Task). find_task c.args.id xs) both.1
          ∙ find_task-without_same c.args.id (in_order_behind c.self.inside.root) c.self.invariant.distinct;
    }
