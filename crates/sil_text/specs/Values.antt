-- What the parts of a scanned decimal are worth.
use Rattle.std.specs.Prelude.{◌≡◌, ◌+◌, ◌<◌, length}
use Rattle.sil_text.specs.declared.scan.Powers.{Powers}
use Rattle.sil_text.specs.declared.scan.Scanned.{Scanned}
use Rattle.sil_text.specs.Decimal.{Decimal, Exponent, number_of, raised_by, lowered_by}

-- the powers of ten of an exponent; three digits keep both below 1,000
pub record ArePowersOf (powers : Powers) (e : Exponent) : Type 0 where
  pub raised : powers.raised ≡ raised_by e
  pub lowered : powers.lowered ≡ lowered_by e
  pub raised_small : powers.raised < 1000
  pub lowered_small : powers.lowered < 1000

pub record IsValueOf (scanned : Scanned) (d : Decimal) : Type 0 where
  pub number : scanned.number ≡ number_of d
  pub raised : scanned.raised ≡ raised_by d.exponent
  pub lowered : scanned.lowered ≡ lowered_by d.exponent + length d.fraction
  pub raised_small : scanned.raised < 1000
