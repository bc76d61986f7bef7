use Rattle.std.proofs.Common.{◌≡◌, arith}
use Rattle.std.proofs.lemmas.Grind.{common_steps}
use Rattle.sil_model.specs.LoopValue.{groups_of}
use Rattle.sil_model.specs.Counts.{counts_numbered}
use Rattle.entry_rates.proofs.CountRates.{up-next}
use Rattle.entry_rates.proofs.rates.up_states.Goals as goal

pub loop-i-preserved : goal.loop-i-preserved
loop-i-preserved c =
    let shown : c.as_slice.result.now ≡ counts_numbered (groups_of c.args.l.now.subsystems) c.loop-i.i = grind (arith, common_steps) in
    record {
      counts = grind (arith, common_steps);
      number = grind (arith, common_steps);
      up =
          up-next c.args.l.now.subsystems c.loop-i.i c.loop-i.up.items c.push.new.self.items c.loop-i.invariant.number c.loop-i.invariant.up
          c.as_slice.result.now shown c.is_up.result c.is_up.ensures c.in_ok-push.ensures.items;
    }
