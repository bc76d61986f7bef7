use Rattle.std.proofs.Common.{◌≡◌, ◌≤◌, arith, refl, rules}
use Rattle.sil_model.specs.LoopValue.{groups_of as the_groups_of}
use Rattle.sil_model.specs.Sizes.{most_states, states_of, states_over}
use Rattle.lumping.proofs.space.Space.new.Goals as goal

pub invariant_of-result : goal.invariant_of-result
unfolding states_of
invariant_of-result c =
    let items : c.in_ok-groups.groups.items ≡ the_groups_of c.args.l.now.subsystems = search rules in
    let limit : states_over (the_groups_of c.args.l.now.subsystems) ≤ most_states = omega (arith, c.state_count-count.ensures.count, c.most_states.ensures.greatest) in
    rw (c.of.ensures, items, c.state_count-count.ensures.count) (record {
      groups = refl;
      small = record { sizes = c.groups_of.ensures.sizes; limit = limit };
      count = refl;
    })
