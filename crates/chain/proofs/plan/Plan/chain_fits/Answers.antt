use Rattle.chain.proofs.Plans.{fits_all, fits_by}
use Rattle.chain.proofs.plan.Plan.chain_fits.Goals as goal

pub returns-in-All : goal.returns-in-All
returns-in-All c =
    fits_all c.args.self c.in-All.is

pub returns-in-By : goal.returns-in-By
returns-in-By c =
    fits_by c.args.self _ c.in-By.is
