use Rattle.std.proofs.Common.{◌≡◌, ap, ◌∙◌}
use Rattle.sil_model.specs.Calendar.{beats_of}
use Rattle.product_chain.specs.Kept.{ChainValue}
use Rattle.phase_way.proofs.Passed.{passed}
use Rattle.phase_way.proofs.passing.pass_by_powers.Goals as goal

pub returns-clause-passed : goal.returns-clause-passed
returns-clause-passed g c =
    let beats : c.beats.result ≡ beats_of c.args.m.now.space.subsystems c.args.m.now.hours =
    c.beats.ensures.value ∙ ap (λ (v : ChainValue). v.beats) c.requires.rooms.chain in
    passed c.args.m.now.space c.args.m.now.chain c.args.m.now.weights c.args.m.now.hours c.beats.result
    c.args.v.now c.run_phase_powered.new.mean c.run_phase_powered.new.v c.args.dwell.now c.run_phase_powered.new.dwell_hours
    c.requires.rooms.chain beats c.run_phase_powered.ensures.runs
