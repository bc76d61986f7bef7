-- The lines of intervals, each with the band of its ends.
use Rattle.std.specs.Prelude.{ℕ, List, ◌++◌, codes}
use Rattle.sil_model.specs.declared.answers.Band.{Band}
use Rattle.sil_bands.specs.Texts.{band_text_of}
use Rattle.sil_text.specs.Figure.{decimal18}
use Rattle.sil_report.specs.Texts.{line}

-- an interval with its band, after its name
abbrev pub interval_line : List ℕ → ℕ → ℕ → Band → List ℕ
interval_line name lo hi band = line (name ++ codes " " ++ decimal18 lo ++ codes " .. " ++ decimal18 hi ++ codes " " ++ band_text_of band)
