use Rattle.std.proofs.Common.{◌≡◌, ◌∙◌, ◌≤◌, ◌++◌, map, string_bytes, length, Some, inl, inr, refl, sym, ap, subst, arith}
use Rattle.std.specs.Prelude.{codes}
use Rattle.sil_io.specs.ShelfState.{IsCalm, bytes_under, no_plan}
use Rattle.sil_io.specs.SinkState.{space_of}
use Rattle.sil_top.specs.Complete.{IsQuiet}
use Rattle.sil_top.specs.Report.{IsTrueReport}
use Rattle.complete_run.proofs.Sound.{words, is_sound, is_held, calls_for_report}
use Rattle.complete_run.proofs.check_file.Goals as goal

pub returns : goal.returns
returns c = λ l sound.
    let file = bytes_under c.put.new.self.files in
    let bytes = c.args.file.now in
    let handed = c.run_program-status.new.shelf.handed in
    let is_file : file (codes "loop.toml") ≡ Some bytes = c.in_ok-put.ensures.put in
    let asked : map string_bytes c.deref.result.now ≡ words = ap (map string_bytes) c.deref.ensures.value ∙ c.in_ok-words.ensures in
    let kept = rw asked at c.run_program-status.ensures in
    -- the shelf is calm, and counts no fault
    let plan : c.put.new.self.plan ≡ no_plan = c.in_ok-put.ensures.plan_stays ∙ ap (λ s. s.plan) c.new-shelf.ensures in
    let calm : IsCalm c.put.new.self.plan = subst IsCalm (sym plan) (record { picks = refl; past = tt }) in
    let no_faults : c.put.new.self.faults ≡ 0 = c.in_ok-put.ensures.faults_stay ∙ ap (λ s. s.faults) c.new-shelf.ensures in
    let shelf_stays = kept.calm_count calm (is_held file handed bytes l is_file sound) in
    let quiet_shelf : IsQuiet c.put.new.self.faults c.run_program-status.new.shelf.faults = record { still = omega (arith, shelf_stays); below = omega (arith, no_faults) } in
    -- the sink has room for the report, and counts no fault
    let sink = c.in_ok-sink.ensures in
    let room : space_of c.in_ok-sink.sink ≡ 1024 = ap space_of sink in
    let no_stops : c.in_ok-sink.sink.faults ≡ 0 = ap (λ s. s.faults) sink in
    let sink_stays = (kept.roomy (λ o called. subst (λ n. length o.text ≤ n) (sym room) (calls_for_report file handed bytes l is_file sound o called).short)).1 in
    let quiet_sink : IsQuiet c.in_ok-sink.sink.faults c.run_program-status.new.sink.faults = record { still = omega (arith, sink_stays); below = omega (arith, no_stops) } in
    -- so the answer is whole
    elim (kept.complete (is_sound file handed bytes l is_file sound) (record { reads = quiet_shelf; writes = quiet_sink })) [
      | inl wanting ↦ inr (wanting, (kept.memory wanting).1.taken ∙ ap (λ s. s.written) sink)
      | inr (given, text, called, written) ↦
          let report = calls_for_report file handed bytes l is_file sound _ called in
          let all : c.run_program-status.new.sink.written ≡ text = written.0 ∙ ap (λ s. s.written ++ text) sink in
          inl (report.status, subst (IsTrueReport l) (sym all) report.report)
    ]
