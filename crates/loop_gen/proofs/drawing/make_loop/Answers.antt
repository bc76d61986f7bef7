use Rattle.std.proofs.Common.{codes, ◌≡◌, ℕ, ◌+◌, ◌*◌, List, [], ◌∷◌, refl, sym, ◌∙◌, subst}
use Rattle.sil_model.specs.LoopValue.{LoopValue, IsValid}
use Rattle.sil_model.specs.declared.parts.Subsystem.{Subsystem}
use Rattle.sil_model.specs.declared.parts.Vote.{Vote}
use Rattle.loop_gen.specs.Drawn.{draw, state_after, sensors_vote, subsystem_of, drawn_of}
use Rattle.loop_gen.proofs.Drawn.{drawn_valid}
use Rattle.loop_gen.proofs.drawing.make_loop.Goals as goal

-- what was drawn one after another: the states x to x5, the mission time m, the repair time r, the vote v and the subsystems
record IsDrawn (number x x1 x2 x3 x4 x5 m r : ℕ) (v : Vote) (a b c : Subsystem) (us : List Subsystem) : Type 0 where
  start : x ≡ number
  mission : m ≡ 8760 * (3 + draw x 1 3)
  first : x1 ≡ state_after x 1
  repair : r ≡ 24 * (1 + draw x1 1 3)
  second : x2 ≡ state_after x1 1
  vote : v ≡ sensors_vote (draw x2 1 3)
  third : x3 ≡ state_after x2 1
  sensors : a ≡ subsystem_of (codes "sensors") v r x3
  ninth : x4 ≡ state_after x3 6
  logic : b ≡ subsystem_of (codes "logic") (record { m = 1; n = 1 }) r x4
  fifteenth : x5 ≡ state_after x4 6
  valves : c ≡ subsystem_of (codes "valves") (record { m = 1; n = 2 }) r x5
  all : us ≡ a ∷ b ∷ c ∷ []

in_turn : {number x x1 x2 x3 x4 x5 m r : ℕ} {v : Vote} {a b c : Subsystem} {us : List Subsystem} → IsDrawn number x x1 x2 x3 x4 x5 m r v a b c us
    → (let l : LoopValue = record { mission = m; order = 28; subsystems = us } in l ≡ drawn_of number)
unfolding drawn_of
in_turn d =
    rw (d.all, d.valves, d.fifteenth, d.logic, d.ninth, d.sensors, d.third, d.vote, d.repair, d.mission, d.second, d.first, d.start) refl

pub new-requires : goal.new-requires
new-requires c =
    let same = in_turn (record {
      start = c.new-generator.ensures;
      mission = c.mission-mission.ensures.drawn;
      first = c.mission-mission.ensures.state;
      repair = c.repair-repair.ensures.drawn;
      second = c.repair-repair.ensures.state;
      vote = c.sensors_vote-vote.ensures.drawn;
      third = c.sensors_vote-vote.ensures.state;
      sensors = c.in_ok-sensors.ensures.drawn;
      ninth = c.in_ok-sensors.ensures.state;
      logic = c.in_ok-logic.ensures.drawn;
      fifteenth = c.in_ok-logic.ensures.state;
      valves = c.in_ok-valves.ensures.drawn;
      all = c.in_ok-subsystems.ensures.items;
    }) in
    subst IsValid (sym same) (drawn_valid c.args.number)

pub returns-clause-drawn : goal.returns-clause-drawn
returns-clause-drawn c =
    c.new.ensures ∙ in_turn (record {
      start = c.new-generator.ensures;
      mission = c.mission-mission.ensures.drawn;
      first = c.mission-mission.ensures.state;
      repair = c.repair-repair.ensures.drawn;
      second = c.repair-repair.ensures.state;
      vote = c.sensors_vote-vote.ensures.drawn;
      third = c.sensors_vote-vote.ensures.state;
      sensors = c.in_ok-sensors.ensures.drawn;
      ninth = c.in_ok-sensors.ensures.state;
      logic = c.in_ok-logic.ensures.drawn;
      fifteenth = c.in_ok-logic.ensures.state;
      valves = c.in_ok-valves.ensures.drawn;
      all = c.in_ok-subsystems.ensures.items;
    })
