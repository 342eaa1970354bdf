use Rattle.bq_verify.proofs.pass.blank.Goals as goal

pub returns-clause-contains : goal.returns-clause-contains
returns-clause-contains c = λ f s have. record {
  registers = λ r. rw (c.nothing.ensures r) tt;
  set = λ i set. absurd (let unset = c.unset.ensures i in let no : ⊥ = cc in no);
  kept = λ j. rw (c.nothing-2.ensures j) tt;
  parts = λ j. rw (c.no_parts.ensures j) tt;
  maps = have;
  copies = (λ k. 0, λ p some. absurd (some (c.no_copies.ensures p)), λ k. rw (c.no_relations.ensures k) tt);
}
