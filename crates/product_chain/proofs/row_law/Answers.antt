use Rattle.product_chain.proofs.Weights.{row}
use Rattle.product_chain.proofs.row_law.Goals as goal

pub returns : goal.returns
returns c l hours beats i v t inside = row l.subsystems v.subsystems hours beats t.enough i inside
