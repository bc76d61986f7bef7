use Rattle.common_cause.proofs.InLoop.{span-here, groups-here}
use Rattle.common_cause.proofs.event.LumpEvent.groups.Goals as goal

pub returns-clause-groups : goal.returns-clause-groups
returns-clause-groups c =
    span-here c.args.l.now c.requires.valid c.args.self.now.subsystem c.requires.inside c.subsystem.result.now c.groups.result
    (λ d. rw c.from.ensures at (c.subsystem.ensures d)) c.groups.ensures.groups

pub returns-clause-few : goal.returns-clause-few
returns-clause-few c =
    groups-here c.args.l.now c.requires.valid c.args.self.now.subsystem c.requires.inside c.subsystem.result.now c.groups.result
    (λ d. rw c.from.ensures at (c.subsystem.ensures d)) c.groups.ensures.groups
