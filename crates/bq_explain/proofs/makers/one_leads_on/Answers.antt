use Rattle.std.proofs.Common.{inl, inr}
use Rattle.bq_explain.proofs.makers.one_leads_on.Goals as goal

pub leads_on-requires : goal.leads_on-requires
leads_on-requires c = λ k e. c.requires k (inl e)

pub leads_on-requires-else-leads_on : goal.leads_on-requires-else-leads_on
leads_on-requires-else-leads_on c = λ k e. c.requires k (inr e)
