use Rattle.std.proofs.Common.{◌≡◌, ℕ, ◌<◌, ap, ◌∙◌}
use Rattle.sil_model.specs.LoopValue.{groups_of}
use Rattle.sil_model.specs.Sizes.{states_of}
use Rattle.sil_model.specs.Counts.{number_of, counts_numbered}
use Rattle.test_matrix.specs.Places.{failed_counts}
use Rattle.test_matrix.proofs.Leads.{failed_counts-valid}
use Rattle.test_matrix.proofs.Pushed.{each_more, one_longer}
use Rattle.test_matrix.proofs.Small.{count-few}
use Rattle.test_matrix.proofs.places.failed.Goals as goal

pub fail-requires-clause-room : goal.fail-requires-clause-room
fail-requires-clause-room c =
    count-few (groups_of c.args.space.now.subsystems) c.counts_at.new.counts c.args.g c.counts_at.ensures.valid c.requires.inside c.requires.sizes

pub rank-requires : goal.rank-requires
rank-requires c =
    rw c.fail.ensures (failed_counts-valid (groups_of c.args.space.now.subsystems) c.args.g c.requires.inside c.counts_at.new.counts c.counts_at.ensures.valid)

pub loop-i-preserved : goal.loop-i-preserved
loop-i-preserved c =
    let is : c.rank.result ≡ number_of (groups_of c.args.space.now.subsystems)
    (failed_counts c.args.g (counts_numbered (groups_of c.args.space.now.subsystems) c.loop-i.i)) =
    c.rank.ensures.number ∙ ap (number_of (groups_of c.args.space.now.subsystems)) (c.fail.ensures ∙ ap (failed_counts c.args.g) c.counts_at.ensures.counts) in
    record {
      as_many =
          one_longer (λ k x. ℕ) c.loop-i.places.items c.push.new.self.items c.loop-i.i c.rank.result 0 c.loop-i.invariant.as_many c.in_ok-push.ensures.items;
      number =
          each_more
          (λ k x. x ≡ number_of (groups_of c.args.space.now.subsystems) (failed_counts c.args.g (counts_numbered (groups_of c.args.space.now.subsystems) k)))
          c.loop-i.places.items c.push.new.self.items c.loop-i.i c.rank.result 0 c.loop-i.invariant.as_many
          c.in_ok-push.ensures.items c.loop-i.invariant.number is;
      below = each_more (λ k x. x < states_of c.args.space.now.subsystems)
          c.loop-i.places.items c.push.new.self.items c.loop-i.i c.rank.result 0 c.loop-i.invariant.as_many
          c.in_ok-push.ensures.items c.loop-i.invariant.below c.rank.ensures.below;
    }
