use Rattle.sil_bands.proofs.Bands.{one_band_law}
use Rattle.sil_bands.proofs.one_band_law.Goals as goal

pub returns : goal.returns
returns c = one_band_law
