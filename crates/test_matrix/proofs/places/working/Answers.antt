use Rattle.std.proofs.Common.{◌≡◌, ℕ, ◌<◌, arith, ap, ◌∙◌}
use Rattle.sil_model.specs.LoopValue.{groups_of}
use Rattle.sil_model.specs.Counts.{count_in, counts_numbered}
use Rattle.sil_model.specs.declared.parts.Chan.TheVariants.{Work}
use Rattle.test_matrix.proofs.Pushed.{each_more, one_longer}
use Rattle.test_matrix.proofs.Small.{count-few}
use Rattle.test_matrix.proofs.places.working.Goals as goal

pub loop-i-preserved : goal.loop-i-preserved
loop-i-preserved c =
    let is : c.from.result ≡ count_in (counts_numbered (groups_of c.args.space.now.subsystems) c.loop-i.i) c.args.g Work =
    c.from.ensures ∙ c.count_in.ensures.count ∙ ap (λ cs. count_in cs c.args.g Work) c.counts_at.ensures.counts in
    record {
      as_many =
          one_longer (λ k x. ℕ) c.loop-i.works.items c.push.new.self.items c.loop-i.i c.from.result 0 c.loop-i.invariant.as_many c.in_ok-push.ensures.items;
      number =
          each_more (λ k x. x ≡ count_in (counts_numbered (groups_of c.args.space.now.subsystems) k) c.args.g Work) c.loop-i.works.items c.push.new.self.items
          c.loop-i.i c.from.result 0
          c.loop-i.invariant.as_many c.in_ok-push.ensures.items c.loop-i.invariant.number is;
      few = each_more (λ k x. x < 9) c.loop-i.works.items c.push.new.self.items c.loop-i.i c.from.result 0
          c.loop-i.invariant.as_many c.in_ok-push.ensures.items c.loop-i.invariant.few
          (omega (
            arith,
            c.from.ensures,
            c.count_in.ensures.count,
            count-few (groups_of c.args.space.now.subsystems) c.counts_at.new.counts c.args.g c.counts_at.ensures.valid c.requires.inside c.requires.sizes Work,
          ));
    }
