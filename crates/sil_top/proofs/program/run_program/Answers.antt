use denote.Param.Object.{read_made}
use Rattle.std.proofs.Common.{◌≡◌, List, [], None, map, rules, string_bytes, refl, sym, ap, ◌∙◌}
use Rattle.sil_watch.specs.Occupancy.{no_hours, occupancy_value}
use Rattle.sil_watch.specs.Peak.{peak_value}
use Rattle.sil_watch.specs.Series.{series_value}
use Rattle.sil_watch.specs.Watching.{WatcherValue}
use Rattle.sil_top.specs.Promises.{KeepsPromises}
use Rattle.sil_top.proofs.Programs.{ok_where_no_error, with_three}
use Rattle.sil_top.proofs.program.run_program.OwnLists.{own-1, at-1-1, at-1-2, at-1-3}
use Rattle.sil_top.proofs.program.run_program.Goals as goal

pub returns : goal.returns
returns g c =
    with_three _ (λ (ws : List WatcherValue). KeepsPromises
    (record { tells = g.S.Shelf.tells; file = g.S.Shelf.file; handed = g.S.Shelf.handed; tried = g.S.Shelf.tried; failed = g.S.Shelf.failed; faults = g.S.Shelf.faults; calm = g.S.Shelf.calm })
    c.args.shelf.now c.run.new.shelf ws
    (record { tells = g.K.Sink.tells; written = g.K.Sink.written; taken = g.K.Sink.taken; offered = g.K.Sink.offered; failed = g.K.Sink.failed; faults = g.K.Sink.faults; room = g.K.Sink.room })
    c.args.sink.now c.run.new.sink
    (map string_bytes c.args.words.now) c.run.result)
    c.new-watchers.result.items c.push.new.self.items c.push-2.new.self.items c.push-3.new.self.items
    c.run.ensures c.new-watchers.ensures.items
    (record {
      box = c.into_dyn_box.result;
      ok = _;
      fits = ok_where_no_error c.push.result (sym c.is_err.ensures.value ∙ c.if-is_err.false);
      items = c.push.ensures.items;
      is = read_made own-1 (own-1.entry at-1-1) at-1-1 refl WatcherValue (λ j w. j.1.watcher_value w) _ _ _ c.into_dyn_box.ensures.1
          ∙ ap series_value (let new : c.in-Ok.series.value ≡ [] = search rules in new);
    })
    (record {
      box = c.into_dyn_box-2.result;
      ok = _;
      fits = ok_where_no_error c.push-2.result (sym c.is_err-2.ensures.value ∙ c.if-is_err-2.false);
      items = c.push-2.ensures.items;
      is = read_made own-1 (own-1.entry at-1-2) at-1-2 refl WatcherValue (λ j w. j.1.watcher_value w) _ _ _ c.into_dyn_box-2.ensures.1
          ∙ ap peak_value (let new : c.in-Ok-new.peak.value ≡ None = search rules in new);
    })
    (record {
      box = c.into_dyn_box-3.result;
      ok = _;
      fits = ok_where_no_error c.push-3.result (sym c.is_err-3.ensures.value ∙ c.if-is_err-3.false);
      items = c.push-3.ensures.items;
      is = read_made own-1 (own-1.entry at-1-3) at-1-3 refl WatcherValue (λ j w. j.1.watcher_value w) _ _ _ c.into_dyn_box-3.ensures.1
          ∙ ap occupancy_value (let new : c.in-Ok-new-2.occupancy.value ≡ no_hours = search rules in new);
    })
