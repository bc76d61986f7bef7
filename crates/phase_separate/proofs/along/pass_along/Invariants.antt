use Rattle.std.proofs.Common.{◌≡◌, ◌+◌, ◌*◌, ◌≤◌, vec_len, drop, sum_by}
use Rattle.sil_model.specs.Sizes.{states_of}
use Rattle.separate_laws.specs.Subsystems.{states_in}
use Rattle.phase_separate.specs.Products.{along_products}
use Rattle.phase_separate.specs.Subsystems.{beats_over}
use Rattle.phase_separate.proofs.Passing.{IsPassing}
use Rattle.phase_separate.proofs.along.pass_along.Given as goal

abbrev pub invariant-loop-subsystem : goal.invariant-loop-subsystem
invariant-loop-subsystem g l =
    let us = l.chain.of.subsystems in
    record {
      size : l.size ≡ states_of us;
      now : vec_len l.now ≡ states_of us;
      next : vec_len l.next ≡ states_of us;
      passing : IsPassing l.chain (beats_over l.span l.passed) l.fn.now.items (drop l.subsystem-index us) l.stride l.now.items;
      steps : l.steps + states_of us * sum_by states_in (drop l.subsystem-index us) ≤ l.fn.steps + along_products us;
    }
