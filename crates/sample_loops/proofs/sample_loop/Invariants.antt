use Rattle.std.proofs.Common.{◌≡◌, ◌≢◌, ◌≤◌, length, take}
use Rattle.std.specs.Prelude.{All, AllPairs, map}
use Rattle.sil_model.specs.LoopValue.{IsSubsystemInRange}
use Rattle.sample_loops.specs.Samples.{sample_of}
use Rattle.sample_loops.proofs.sample_loop.Given as goal

abbrev pub invariant-loop-i : goal.invariant-loop-i
invariant-loop-i l = record {
  sampled : map sample_of l.subsystems.items ≡ take l.i l.samples;
  ranges : All IsSubsystemInRange l.subsystems.items;
  short : All (λ u. length u.name ≤ l.i) l.subsystems.items;
  names : AllPairs (λ u v. u.name ≢ v.name) l.subsystems.items;
}
