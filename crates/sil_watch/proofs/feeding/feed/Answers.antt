use Rattle.std.proofs.Common.{[], ◌∷◌, rules}
use Rattle.sil_watch.specs.Watching.{fed_of}
use Rattle.sil_watch.proofs.Lists.{one_more, none_more, on_error}
use Rattle.sil_watch.proofs.feeding.feed.Goals as goal

pub returns-in_err-offer-clause-refused : goal.returns-in_err-offer-clause-refused
returns-in_err-offer-clause-refused g c =
    on_error c.from_residual.result (
      c.loop-i.i,
      none_more (λ b. (goal.Watcher-dyn g (b.vtable, b.value)).watcher_value b.value) (fed_of c.args.asked (c.args.rec.now ∷ [])) c.args.all.now c.loop-i.all c.loop-i.i c.offer.new.w c.index-all-i.result
          (search rules) (search rules) c.loop-i.invariant c.in_err-offer.ensures.refused,
      search rules,
    )

pub loop-i-preserved : goal.loop-i-preserved
loop-i-preserved g c =
    one_more (λ b. (goal.Watcher-dyn g (b.vtable, b.value)).watcher_value b.value) (fed_of c.args.asked (c.args.rec.now ∷ [])) c.args.all.now c.loop-i.all c.loop-i.i c.offer.new.w c.index-all-i.result
    (search rules) (search rules) c.loop-i.invariant c.in_ok-offer.ensures.fed
