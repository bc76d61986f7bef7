use Rattle.std.proofs.Common.{◌*◌}
use Rattle.interval_fixed.proofs.Rounding.{div_ceil-ceiling}
use Rattle.interval_fixed.proofs.interval.Interval.scale.Goals as goal

pub returns-clause-hi : goal.returns-clause-hi
returns-clause-hi c =
    cc (c.div_ceil.ensures, c.from-3.ensures, c.from-4.ensures, div_ceil-ceiling (c.args.self.hi * c.args.n) c.args.d c.requires.some)
