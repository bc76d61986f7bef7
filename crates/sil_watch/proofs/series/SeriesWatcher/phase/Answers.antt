use Rattle.std.proofs.Common.{rules, ◌≡◌, ◌++◌, [], ◌∷◌, List, ap, ◌∙◌}
use Rattle.sil_watch.specs.Series.{series_value}
use Rattle.sil_watch.specs.declared.record.PhaseRecord.{PhaseRecord}
use Rattle.sil_watch.proofs.SeriesLines.{series-more}
use Rattle.sil_watch.proofs.series.SeriesWatcher.phase.Goals as goal

pub returns-clause-taken : goal.returns-clause-taken
returns-clause-taken c =
    let kept : c.push.new.self.items ≡ c.args.self.now ++ c.args.rec.now ∷ [] = search rules in
    ap (λ (rs : List PhaseRecord). series_value rs) kept ∙ series-more c.args.self.now c.args.rec.now
