use Rattle.std.proofs.Common.{length, ap, rules, inl, inr, refl}
use Rattle.sil_top.proofs.Complete.{offered_once}
use Rattle.sil_top.proofs.write_text.Goals as goal

pub returns-in-Ok : goal.returns-in-Ok
returns-in-Ok g c =
    let w = c.in-Ok.ensures in
    record {
      whole = λ e. (w.all_taken, w.whole);
      part = λ e. absurd (c.requires e);
      one_of_two = inl refl;
      in_one_piece = offered_once (length c.args.text.now) c.args.text.now _ _ (λ none. ap g.K.Sink.offered (w.untouched none)) w.offered;
      last_failed = λ e. absurd (c.requires e);
      roomy = λ fits. (refl, (w.roomy fits).1);
    }

pub returns-in-Err : goal.returns-in-Err
returns-in-Err g c =
    let w = c.in-Err.ensures in
    let some = w.not_for_nothing in
    record {
      whole = λ e. absurd (c.requires (search rules));
      part = λ e. (w.failed, w.part_taken, w.part);
      one_of_two = inr refl;
      in_one_piece = offered_once (length c.args.text.now) c.args.text.now _ _ (λ none. ap g.K.Sink.offered (w.untouched none)) w.offered;
      last_failed = λ e. (w.noted some, (c.args.text.now, w.offered some));
      roomy = λ fits. absurd (search rules);
    }
