use Rattle.std.proofs.Common.{sym, arith}
use Rattle.schedule_laws.proofs.PhasesOfLoop.{phases_of_few}
use Rattle.sil_watch.proofs.Lists.{on_error}
use Rattle.loop_value.proofs.Told.{some_record, some_record_is}
use Rattle.loop_value.proofs.telling.tell.Goals as goal

pub record-rec-requires-clause-few : goal.record-rec-requires-clause-few
record-rec-requires-clause-few g c =
    omega (arith, c.requires.within, phases_of_few c.args.l.now c.requires.plan.valid, c.requires.plan.valid.mission.below)

pub returns-in_ok-feed-clause-told : goal.returns-in_ok-feed-clause-told
returns-in_ok-feed-clause-told g c order least passed = record {
  rec = c.record-rec.result;
  is = c.record-rec.ensures order least passed;
  fed = c.in_ok-feed.ensures.fed;
}

pub returns-in_err-feed-clause-refused : goal.returns-in_err-feed-clause-refused
returns-in_err-feed-clause-refused g c =
    on_error c.from_residual.result (λ order least passed. record {
      rec = c.record-rec.result;
      is = c.record-rec.ensures order least passed;
      count = c.in_err-feed.ensures.refused.0;
      fed = c.in_err-feed.ensures.refused.1;
    })

pub returns-else-any_asked-clause-told : goal.returns-else-any_asked-clause-told
returns-else-any_asked-clause-told g c order least passed = record {
  rec = some_record c.args.l.now c.requires.plan.valid c.args.p c.requires.within c.args.m.now.up.items c.requires.ready.up c.args.m.now.mean.items c.args.m.now.v.items
      c.requires.ready.mean c.requires.ready.v c.requires.mean_mass c.requires.end_mass;
  is = some_record_is c.args.l.now c.requires.plan.valid c.args.p c.requires.within c.args.m.now.up.items c.requires.ready.up c.args.m.now.mean.items c.args.m.now.v.items
      c.requires.ready.mean c.requires.ready.v c.requires.mean_mass c.requires.end_mass order least passed;
  fed = sym (c.any_asked.ensures.none c.if-any_asked.false _);
}
