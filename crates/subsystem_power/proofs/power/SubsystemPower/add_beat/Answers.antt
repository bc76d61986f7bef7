use Rattle.std.proofs.Common.{◌<◌, ◌∙◌, arith}
use Rattle.subsystem_power.specs.Rooms.{ArePowers}
use Rattle.subsystem_power.proofs.power.SubsystemPower.add_beat.Goals as goal

pub invariant_of-self : goal.invariant_of-self
invariant_of-self g c =
    let i = c.self.invariant in
    let p = c.self.inside in
    let some : 0 < p.count.number = rw (← c.self.view_is) at c.requires.begun in
    let kept : ArePowers p.chain p.count.number p.beat p.sixteen p.power = i.powers some in
    record {
      alone_same = i.alone_same;
      space_same = i.space_same;
      work_size = i.work_size;
      end_size = i.end_size;
      dwell_size = i.dwell_size;
      beat_size = i.beat_size;
      sixteen_size = i.sixteen_size;
      power_size = rw c.swap.ensures.x_after (c.follow.ensures.size ∙ i.power_size);
      product_size = rw c.swap.ensures.y_after i.power_size;
      hours_same = i.hours_same;
      counted = λ b. omega (arith, c.and-self-inside.ensures, some);
      powers = λ b. record {
        of_one = kept.of_one;
        of_sixteen = kept.of_sixteen;
        of_beats = rw (c.swap.ensures.x_after, c.and-self-inside.ensures, c.one.ensures)
            (c.follow.ensures.power p.chain p.count.number 1 (omega arith) kept.of_beats kept.of_one);
      };
    }
