-- The words of bands.
use Rattle.std.specs.Prelude.{ℕ, List, codes}
use Rattle.sil_model.specs.declared.answers.Band.{Band}
use Rattle.sil_model.specs.declared.answers.Band.TheVariants.{Beyond4, Sil4, Sil3, Sil2, Sil1, NoSil, Undecided}

abbrev pub band_text_of : Band → List ℕ
band_text_of Beyond4 = codes "beyond SIL 4"
band_text_of Sil4 = codes "SIL 4"
band_text_of Sil3 = codes "SIL 3"
band_text_of Sil2 = codes "SIL 2"
band_text_of Sil1 = codes "SIL 1"
band_text_of NoSil = codes "no SIL"
band_text_of Undecided = codes "undecided"
