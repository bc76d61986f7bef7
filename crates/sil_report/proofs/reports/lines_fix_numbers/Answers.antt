use Rattle.sil_report.proofs.FixedBy.{lines_fix_numbers}
use Rattle.sil_report.proofs.reports.lines_fix_numbers.Goals as goal

pub returns : goal.returns
returns c = lines_fix_numbers
