use Rattle.std.proofs.Common.{◌≡◌, ◌++◌, ℕ, List, ap, ◌∙◌}
use Rattle.std.specs.Prelude.{codes, decimal}
use Rattle.sil_watch.specs.Lines.{interval_text}
use Rattle.sil_watch.proofs.SeriesLines.{line_in_pieces}
use Rattle.sil_watch.proofs.series.line.Goals as goal

-- pieces that are put one after another
in_order : (a b c d e f g h : List ℕ) → b ≡ a → c ≡ b ++ e → d ≡ c ++ f → h ≡ d ++ g → h ≡ ((a ++ e) ++ f) ++ g
in_order a b c d e f g h p q r s =
    s ∙ ap (λ (xs : List ℕ). xs ++ g) (r ∙ ap (λ (xs : List ℕ). xs ++ f) (q ∙ ap (λ (xs : List ℕ). xs ++ e) p))

pub returns : goal.returns
returns c =
    in_order (codes "phase " ++ (decimal c.args.rec.now.index ++ (codes " start " ++ (decimal c.args.rec.now.start ++ (codes " hours " ++ decimal c.args.rec.now.hours)))))
    c.into_bytes-text.result.items c.push_interval.new.text.items c.push_interval-2.new.text.items
    (codes " mean " ++ interval_text c.args.rec.now.mean.lo c.args.rec.now.mean.hi) (codes " end " ++ interval_text c.args.rec.now.at_end.lo c.args.rec.now.at_end.hi) (codes "\n")
    c.extend_from_slice.new.self.items
    (rw c.into_bytes-text.ensures.value c.in_ok-head.ensures.ok) c.in_ok-push_interval.ensures c.in_ok-push_interval-2.ensures c.in_ok-extend_from_slice.ensures.items
    ∙ line_in_pieces c.args.rec.now.index c.args.rec.now.start c.args.rec.now.hours c.args.rec.now.mean.lo c.args.rec.now.mean.hi c.args.rec.now.at_end.lo c.args.rec.now.at_end.hi (codes "\n")
