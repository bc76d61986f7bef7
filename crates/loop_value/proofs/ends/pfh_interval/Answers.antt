use Rattle.std.proofs.Common.{◌≡◌, ◌+◌, ◌*◌, ◌/◌, ◌^◌, sum, ap, ◌∙◌, arith}
use Rattle.sil_model.specs.Calendar.{ceiling}
use Rattle.interval_fixed.proofs.Rounding.{div_ceil-ceiling}
use Rattle.loop_value.specs.Ends.{entries_of}
use Rattle.loop_value.proofs.Printable.{entries-most, passed-most, printable, in_order}
use Rattle.loop_value.proofs.ends.pfh_interval.Given.{Over}
use Rattle.loop_value.proofs.ends.pfh_interval.Goals as goal

module _ (g : Over) (c : goal.After-up g) where
  hours : c.from-hours.result ≡ c.args.mission
  hours = c.from-hours.ensures

  passed : c.div_ceil-most.result ≡ ceiling (10 ^ 18 * c.args.passages.most) c.args.mission
  passed = c.div_ceil-most.ensures ∙ div_ceil-ceiling (10 ^ 18 * c.args.passages.most) c.from-hours.result (omega (arith, hours, c.requires.mission))
      ∙ ap (λ h. ceiling (10 ^ 18 * c.args.passages.most) h) c.from-hours.ensures

  above : c.add_product.new.self.sum ≡ entries_of c.args.rates.now c.args.means.now + ceiling (10 ^ 18 * c.args.passages.most) c.args.mission + c.args.lack * c.args.greatest
  above = omega (arith, c.add_product.ensures.sum, c.entries-upper.ensures.sum, passed)

  below : c.entries-lower.result.sum ≡ entries_of c.args.rates.now c.args.means.now + 10 ^ 18 * c.args.passages.least / c.args.mission
  below = c.entries-lower.ensures.sum ∙ ap (λ h. entries_of c.args.rates.now c.args.means.now + 10 ^ 18 * c.args.passages.least / h) c.from-hours.ensures

pub invariant_of-result : goal.invariant_of-result
invariant_of-result g c = record {
  ordered = rw (c.down.ensures.floor, c.up.ensures.ceiling, above g c, below g c)
      (in_order (entries_of c.args.rates.now c.args.means.now) c.args.passages.least c.args.passages.most c.args.mission (c.args.lack * c.args.greatest) c.requires.mission c.requires.passages);
  printable = rw (c.up.ensures.ceiling, above g c)
      (printable (entries_of c.args.rates.now c.args.means.now) c.args.greatest c.args.lack (sum c.args.means.now) (ceiling (10 ^ 18 * c.args.passages.most) c.args.mission)
      (entries-most c.args.rates.now c.args.means.now c.args.greatest c.requires.small) c.requires.lack c.requires.greatest
      (passed-most c.args.passages.most c.args.mission c.requires.mission c.requires.one_an_hour));
}

pub returns-clause-hi : goal.returns-clause-hi
returns-clause-hi g c =
    let passed : c.div_ceil-most.result ≡ ceiling (10 ^ 18 * c.args.passages.most) c.args.mission =
    c.div_ceil-most.ensures ∙ div_ceil-ceiling (10 ^ 18 * c.args.passages.most) c.from-hours.result (omega (arith, c.from-hours.ensures, c.requires.mission))
    ∙ ap (λ h. ceiling (10 ^ 18 * c.args.passages.most) h) c.from-hours.ensures in
    let all : c.add_product.new.self.sum ≡ entries_of c.args.rates.now c.args.means.now + c.args.greatest * c.args.lack + ceiling (10 ^ 18 * c.args.passages.most) c.args.mission =
    omega (arith, c.add_product.ensures.sum, c.entries-upper.ensures.sum, passed) in
    c.up.ensures.ceiling ∙ ap (λ x. ceiling x (2 ^ 48)) all
