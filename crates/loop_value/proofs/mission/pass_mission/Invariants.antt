use Rattle.std.proofs.Common.{◌≡◌, ℕ, ◌+◌, ◌*◌, ◌≤◌, map}
use Rattle.sil_model.specs.Sizes.{states_of}
use Rattle.mission_laws.specs.Losses.{beats_until, group_tests_until}
use Rattle.uniformise.specs.Beat.{beat_products}
use Rattle.phase_way.specs.Ways.{most_powered_states}
use Rattle.loop_value.specs.Mission.{IsReady, StandsAt, test_products}
use Rattle.loop_value.specs.Sizes.{HaveRoom, powered_until}
use Rattle.loop_value.specs.Records.{HasFed}
use Rattle.loop_value.proofs.mission.pass_mission.Given as goal

abbrev pub invariant-loop-p : goal.invariant-loop-p
invariant-loop-p g l = record {
  ready : IsReady l.l l.m;
  order : l.m.rooms.order ≡ l.fn.m.rooms.order;
  reached : StandsAt l.l l.fn.m.rooms.order l.p l.m;
  counted : l.steps ≤ l.fn.steps + beats_until l.l l.p * beat_products l.l.subsystems l.fn.m.rooms.order + group_tests_until l.l l.p * test_products l.l.subsystems;
  powered : states_of l.l.subsystems ≤ most_powered_states → (digits : ℕ → ℕ) → HaveRoom digits
      → l.steps ≤ l.fn.steps + powered_until l.l l.fn.m.rooms.order digits l.p + group_tests_until l.l l.p * test_products l.l.subsystems;
  fed : HasFed l.l l.fn.m.rooms.order l.p l.fn.asked (map (λ b. (goal.Watcher-dyn g (b.vtable, b.value)).watcher_value b.value) l.fn.feed)
      (map (λ b. (goal.Watcher-dyn g (b.vtable, b.value)).watcher_value b.value) l.feed);
}
