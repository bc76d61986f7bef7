use Rattle.std.proofs.Common.{◌≤◌, arith, ap, append-nil, length}
use Rattle.sil_model.specs.Budget.{lumped_events_of}
use Rattle.sil_model.specs.LoopValue.{groups_of, groups_by_test}
use Rattle.sil_model.proofs.Groups.{by_test-few}
use Rattle.sil_model.proofs.parts.Subsystem.lumped_events.Goals as goal

pub returns-clause-events : goal.returns-clause-events
unfolding lumped_events_of groups_of
returns-clause-events c = omega (arith, c.groups.ensures.groups 0, ap length (append-nil (groups_by_test 0 c.args.self.now.vote.n c.args.self.now.test)))

pub returns-clause-few : goal.returns-clause-few
returns-clause-few c =
    let some : 1 ≤ c.args.self.now.vote.n = omega (arith, c.requires.some, c.requires.suffice) in
    omega (arith, c.groups.ensures.groups 0, by_test-few 0 c.args.self.now.vote.n c.args.self.now.test some, c.requires.few)
