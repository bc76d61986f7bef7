-- The law of steps along a digit.
use Rattle.std.proofs.Common.{ℕ, ◌<◌}
use Rattle.sil_model.specs.Series.{Values}
use Rattle.model_laws.specs.Polynomial.{IsLinear}
use Rattle.lumped_laws.specs.LinearLists.{AsksBelow}
use Rattle.separate_laws.specs.DigitLaws.{DigitLaw}
use Rattle.separate_laws.proofs.Along.{stays-asks, along-linear, along-keeps, along-stays, beats-along}
use Rattle.separate_laws.proofs.Commuting.{commute-along}

pub digit_law : (stride base : ℕ) (T : Values ℕ → Values ℕ) → 0 < stride → 0 < base → IsLinear T → AsksBelow base T → DigitLaw stride base T
digit_law stride base T some more linear asks =
    let stays = stays-asks base T asks in
    record {
      linear = along-linear stride base some more T linear;
      keeps = along-keeps stride base some more T;
      stays = along-stays stride base some more T stays;
      beats = beats-along stride base some more T stays;
      commute = λ between other U apart exist linear_too asks_too.
          commute-along stride base between other some more apart exist T U linear stays linear_too (stays-asks other U asks_too);
    }
