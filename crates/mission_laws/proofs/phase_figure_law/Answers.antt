use Rattle.mission_laws.proofs.PhaseFigures.{phase_figure_laws}
use Rattle.mission_laws.proofs.phase_figure_law.Goals as goal

pub returns : goal.returns
returns c = phase_figure_laws
