use Rattle.std.proofs.Common.{◌≡◌, ℕ, ◌+◌, ◌-◌, ◌^◌, ◌≤◌, List, length, sum, ap, ◌∙◌, arith}
use Rattle.sil_model.specs.Budget.{failure_rate_of}
use Rattle.sil_model.specs.Sizes.{states_of}
use Rattle.schedule_laws.proofs.PhasesOfLoop.{length-phases_of, phases_of_few}
use Rattle.mission_laws.specs.Missions.{AreMeans, pfd_lower, pfd_upper, pfh_lower, pfh_upper}
use Rattle.loop_value.specs.Ends.{sum_down, sum_up, entries_of}
use Rattle.loop_value.specs.Sizes.{value_products, value_products_by_powers}
use Rattle.loop_value.proofs.Places.{written, sides_all}
use Rattle.loop_value.proofs.Figures.{mass, pfd_inside, pfd_narrow, pfh_inside, pfh_narrow}
use Rattle.loop_value.proofs.evaluating.evaluate.Given.{Over}
use Rattle.loop_value.proofs.evaluating.evaluate.Goals as goal
use Rattle.loop_value.proofs.evaluating.evaluate.Goals.{After-as_slice, After-pfh_interval}

-- the means, written over the dwell
module _ (g : Over) (c : After-as_slice g) where
  shared : AreMeans c.args.l.now.mission c.pass_mission.new.m.dwell.items c.as_slice-means.result.now
  shared =
      rw (
        c.as_slice-means.ensures.value,
        written c.pass_mission.new.m.dwell.len c.divide.new.dwell c.pass_mission.new.m.dwell.items
            (c.divide.auto.dwell ∙ ap (λ (v : List ℕ). length v) c.as_mut_slice.ensures.value) (omega (arith, c.pass_mission.new.m.dwell.ok.0)),
      )
      (rw (c.mission.ensures.mission, c.as_mut_slice.ensures.value) at c.divide.ensures)

  small : sum c.as_slice-means.result.now ≤ 2 ^ 48
  small = mass c.args.l.now c.mission.ensures.valid c.args.m.now.rooms.order c.requires.order c.pass_mission.new.m c.in_ok-pass_mission.ensures.ready
      c.in_ok-pass_mission.ensures.counted c.in_ok-pass_mission.ensures.lost c.in_ok-pass_mission.ensures.few c.as_slice-means.result.now shared

  as_many : length c.as_slice-means.result.now ≡ states_of c.args.l.now.subsystems
  as_many = shared.as_many ∙ c.in_ok-pass_mission.ensures.ready.dwell

pub sides_of_means-sides-requires-clause-mass : goal.sides_of_means-sides-requires-clause-mass
sides_of_means-sides-requires-clause-mass g c = small g c

pub pfh_interval-requires-clause-lack : goal.pfh_interval-requires-clause-lack
pfh_interval-requires-clause-lack g c =
    omega (arith, c.sides_of_means-sides.ensures.down, c.sides_of_means-sides.ensures.up, sides_all c.as_slice.result.now c.as_slice-means.result.now, c.sides_of_means-sides.result.at_most_one)

pub pfh_interval-requires-clause-one_an_hour : goal.pfh_interval-requires-clause-one_an_hour
pfh_interval-requires-clause-one_an_hour g c =
    omega (arith, c.in_ok-pass_mission.ensures.few, c.mission-2.ensures.mission, length-phases_of c.args.l.now, phases_of_few c.args.l.now c.mission.ensures.valid)

-- the ends, by the means
module _ (g : Over) (c : After-pfh_interval g) where
  abbrev lack : ℕ
  lack = 2 ^ 48 - c.sides_of_means-sides.result.down - c.sides_of_means-sides.result.up

  pfd_lo : c.chance_down.result.lo ≡ pfd_lower (sum_down c.pass_mission.new.m.up.items c.as_slice-means.result.now)
  pfd_lo = c.chance_down.ensures.lo ∙ ap pfd_lower (rw c.as_slice.ensures.value at c.sides_of_means-sides.ensures.down)

  pfd_hi : c.chance_down.result.hi ≡ pfd_upper (sum_up c.pass_mission.new.m.up.items c.as_slice-means.result.now)
  pfd_hi = c.chance_down.ensures.hi ∙ ap pfd_upper (rw c.as_slice.ensures.value at c.sides_of_means-sides.ensures.up)

  pfh_lo : c.pfh_interval.result.lo ≡ pfh_lower c.args.l.now.mission (entries_of c.pass_mission.new.m.rates.items c.as_slice-means.result.now) c.pass_mission.new.m.passages.least
  pfh_lo = rw (c.as_slice-2.ensures.value, c.mission-2.ensures.mission) at c.pfh_interval.ensures.lo

  pfh_hi : c.pfh_interval.result.hi
      ≡ pfh_upper c.args.l.now.mission (entries_of c.pass_mission.new.m.rates.items c.as_slice-means.result.now) (failure_rate_of c.args.l.now.subsystems) lack c.pass_mission.new.m.passages.most
  pfh_hi = rw (c.as_slice-2.ensures.value, c.mission-2.ensures.mission, c.failure_rate.ensures.rate) at c.pfh_interval.ensures.hi

  is_lack : sum c.as_slice-means.result.now + lack ≡ 2 ^ 48
  is_lack = omega (arith, c.sides_of_means-sides.ensures.down, c.sides_of_means-sides.ensures.up, sides_all c.as_slice.result.now c.as_slice-means.result.now, c.sides_of_means-sides.result.at_most_one)

pub returns-clause-pfd : goal.returns-clause-pfd
returns-clause-pfd g c N o =
    rw (pfd_lo g c, pfd_hi g c)
    (pfd_inside c.args.l.now c.mission.ensures.valid c.args.m.now.rooms.order c.requires.order c.pass_mission.new.m c.in_ok-pass_mission.ensures.ready
    c.in_ok-pass_mission.ensures.counted c.in_ok-pass_mission.ensures.lost c.in_ok-pass_mission.ensures.few c.as_slice-means.result.now
    (shared g (goal.at.returns-clause-pfd g c).After-as_slice) N o)

pub returns-clause-pfd_width : goal.returns-clause-pfd_width
returns-clause-pfd_width g c =
    rw (pfd_lo g c, pfd_hi g c)
    (pfd_narrow c.args.l.now c.mission.ensures.valid c.args.m.now.rooms.order c.requires.order c.pass_mission.new.m c.in_ok-pass_mission.ensures.ready
    c.in_ok-pass_mission.ensures.counted c.in_ok-pass_mission.ensures.lost c.in_ok-pass_mission.ensures.few c.as_slice-means.result.now
    (shared g (goal.at.returns-clause-pfd_width g c).After-as_slice))

pub returns-clause-pfh : goal.returns-clause-pfh
returns-clause-pfh g c N o =
    rw (pfh_lo g c, pfh_hi g c)
    (pfh_inside c.args.l.now c.mission.ensures.valid c.args.m.now.rooms.order c.requires.order c.pass_mission.new.m c.in_ok-pass_mission.ensures.ready
    c.in_ok-pass_mission.ensures.counted c.in_ok-pass_mission.ensures.lost c.in_ok-pass_mission.ensures.few c.as_slice-means.result.now
    (shared g (goal.at.returns-clause-pfh g c).After-as_slice) (lack g c) (is_lack g c) N o)

pub returns-clause-pfh_width : goal.returns-clause-pfh_width
returns-clause-pfh_width g c =
    rw (pfh_lo g c, pfh_hi g c)
    (pfh_narrow c.args.l.now c.mission.ensures.valid c.args.m.now.rooms.order c.requires.order c.pass_mission.new.m c.in_ok-pass_mission.ensures.ready
    c.in_ok-pass_mission.ensures.counted c.in_ok-pass_mission.ensures.lost c.in_ok-pass_mission.ensures.few c.as_slice-means.result.now
    (shared g (goal.at.returns-clause-pfh_width g c).After-as_slice) (lack g c) (is_lack g c))

pub returns-clause-products : goal.returns-clause-products
unfolding value_products
returns-clause-products g c =
    omega (arith, c.pfh_interval.ensures.steps, c.in_ok-pass_mission.ensures.steps, as_many g (goal.at.returns-clause-products g c).After-as_slice)

pub returns-clause-by_powers : goal.returns-clause-by_powers
unfolding value_products_by_powers
returns-clause-by_powers g c = λ few digits room.
    omega (arith, c.pfh_interval.ensures.steps, c.in_ok-pass_mission.ensures.powered few digits room, as_many g (goal.at.returns-clause-by_powers g c).After-as_slice)
