use Rattle.sil_top.proofs.Reports.{reports_fix_figures}
use Rattle.sil_top.proofs.figures.reports_fix_figures.Goals as goal

pub returns : goal.returns
returns c = reports_fix_figures
