use Rattle.std.proofs.Common.{◌≡◌, ℕ, ◌+◌, ◌/◌, ◌^◌, ◌<◌, List, ◌++◌, length, slice_index, take, ◌∙◌, arith}
use Rattle.std.proofs.Math.Seq.{take-append_seam}
use Rattle.sil_model.specs.Sizes.{states_of}
use Rattle.sil_model.specs.WeightTable.{weight_of, mean_weight_of}
use Rattle.vector_laws.specs.Laws.{AreFloors}
use Rattle.vector_laws.specs.Block.{IsGathered}
use Rattle.uniformise.specs.Beat.{IsStep, tick_loss}
use Rattle.uniformise.proofs.OneBeat.{IsEnd, IsDwell, end_of_beat, dwell_of_beat, sums_small}
use Rattle.uniformise.proofs.workspace.Workspace.beat.Given.{Over}
use Rattle.uniformise.proofs.workspace.Workspace.beat.Goals as goal

-- a vector that was written over as a whole
written : (n : ℕ) (xs ys : List ℕ) → n ≡ length xs → take n (xs ++ ys) ≡ xs
written n xs ys e = rw e (take-append_seam xs ys)

module _ (g : Over) (c : goal.After-slice_known-4-1 g) where
  ends : c.deref.result.now ≡ c.gather.new.ends
  ends = c.deref.ensures.value ∙ written _ c.gather.new.ends _ (omega arith)

  stays : c.deref-2.result.now ≡ c.gather.new.stays
  stays = c.deref-2.ensures.value ∙ written _ c.gather.new.stays _ (omega arith)

  ends_gathered : IsGathered (IsStep c.args.chain.now) (tick_loss c.args.chain.now.of.subsystems) c.args.v.now c.gather.new.ends weight_of
      (c.args.weights.now + 1)
  ends_gathered = rw c.copy_from_slice.ensures.items at c.gather.ensures.ends

  stays_gathered : IsGathered (IsStep c.args.chain.now) (tick_loss c.args.chain.now.of.subsystems) c.args.v.now c.gather.new.stays
      (mean_weight_of c.args.weights.now) (c.args.weights.now + 1)
  stays_gathered = rw c.copy_from_slice.ensures.items at c.gather.ensures.stays

  floors : AreFloors (2 ^ 48) c.gather.new.ends c.round_down.new.to
  floors = rw ends at c.round_down.ensures

  old_long : length c.args.dwell.now ≡ length c.gather.new.stays
  old_long = omega arith

  added : (k : ℕ) → k < length c.gather.new.stays → slice_index c.add_rounded_down.new.to k
      ≡ slice_index c.args.dwell.now k + slice_index c.gather.new.stays k / 2 ^ 48
  added = rw stays at c.add_rounded_down.ensures.added

  size : length c.round_down.new.to ≡ states_of c.args.chain.now.of.subsystems
  size = omega (arith, floors.same_length)

  the_end : IsEnd c.args.chain.now c.args.weights.now c.args.v.now c.round_down.new.to
  the_end =
      end_of_beat c.args.chain.now c.args.weights.now c.gather.ensures.order.0 c.gather.ensures.order.1 c.args.v.now c.requires.mass c.gather.new.ends
      c.round_down.new.to ends_gathered floors size

  the_dwell : IsDwell c.args.chain.now c.args.weights.now c.args.v.now c.args.dwell.now c.add_rounded_down.new.to
  the_dwell =
      dwell_of_beat c.args.chain.now c.args.weights.now c.gather.ensures.order.0 c.gather.ensures.order.1 c.args.v.now c.requires.mass
      c.gather.new.stays c.args.dwell.now c.add_rounded_down.new.to stays_gathered old_long c.add_rounded_down.ensures.size added c.requires.dwell

pub round_down-requires-clause-small : goal.round_down-requires-clause-small
round_down-requires-clause-small g c =
    let ends : c.deref.result.now ≡ c.gather.new.ends = c.deref.ensures.value ∙ written _ c.gather.new.ends _ (omega arith) in
    let gathered : IsGathered (IsStep c.args.chain.now) (tick_loss c.args.chain.now.of.subsystems) c.args.v.now c.gather.new.ends weight_of
    (c.args.weights.now + 1) = rw c.copy_from_slice.ensures.items at c.gather.ensures.ends in
    rw ends (sums_small c.args.chain.now c.args.weights.now c.gather.ensures.order.0 c.gather.ensures.order.1 c.args.v.now c.requires.mass c.gather.new.ends gathered)

pub returns-clause-encloses : goal.returns-clause-encloses
returns-clause-encloses g c = (the_end g c).weighed

pub returns-clause-kept : goal.returns-clause-kept
returns-clause-kept g c = (the_end g c).most

pub returns-clause-lack : goal.returns-clause-lack
returns-clause-lack g c = (the_end g c).least

pub returns-clause-dwells : goal.returns-clause-dwells
returns-clause-dwells g c = (the_dwell g c).weighed

pub returns-clause-grows : goal.returns-clause-grows
returns-clause-grows g c = (the_dwell g c).grows

pub returns-clause-dwell_kept : goal.returns-clause-dwell_kept
returns-clause-dwell_kept g c = (the_dwell g c).most

pub returns-clause-dwell_lack : goal.returns-clause-dwell_lack
returns-clause-dwell_lack g c = (the_dwell g c).least
