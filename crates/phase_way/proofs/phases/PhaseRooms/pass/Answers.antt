use Rattle.std.proofs.Common.{◌≡◌, ap, ◌∙◌}
use Rattle.sil_model.specs.LoopValue.{LoopValue}
use Rattle.sil_model.specs.Calendar.{beats_of}
use Rattle.phase_way.specs.Rooms.{RoomsValue}
use Rattle.phase_way.specs.declared.choice.Way.TheVariants.{Blocks, Subsystems}
use Rattle.phase_way.proofs.Products.{within_powers}
use Rattle.phase_way.proofs.phases.PhaseRooms.pass.Goals as goal

pub returns-in-Subsystems-clause-powered : goal.returns-in-Subsystems-clause-powered
returns-in-Subsystems-clause-powered g c = λ few digits room.
    let us : c.retime.new.self.space.subsystems ≡ c.args.l.now.subsystems =
    ap (λ (l : LoopValue). l.subsystems) (c.retime.ensures.space ∙ ap (λ (r : RoomsValue). r.of) c.self.view_is ∙ c.requires.same) in
    let chosen : c.retime.new.self.choice.of.value.subsystems ≡ c.args.l.now.subsystems = ap (λ (l : LoopValue). l.subsystems) c.retime.ensures.rooms.of ∙ us in
    let order : c.retime.new.self.choice.order ≡ c.args.self.now.order =
    c.retime.ensures.rooms.order ∙ c.retime.ensures.weights ∙ ap (λ (r : RoomsValue). r.order) c.self.view_is in
    let hours : c.retime.new.self.hours ≡ c.args.hours = c.retime.ensures.hours in
    let beats : c.beats_of-beats.result ≡ beats_of c.args.l.now.subsystems c.args.hours = c.beats_of-beats.ensures.beats in
    within_powers c.args.l.now.subsystems c.args.self.now.order (beats_of c.args.l.now.subsystems c.args.hours) c.digits_of.result digits _ _ Subsystems
    ((rw (us, hours) at c.pass_by_subsystems.ensures.steps) c.digits_of.result (rw beats at c.digits_of.ensures.room))
    ((rw (chosen, order) at c.in-Subsystems.ensures.powered) few)
    (c.digits_of.ensures.least digits (rw beats room))

pub returns-in-Blocks-clause-powered : goal.returns-in-Blocks-clause-powered
returns-in-Blocks-clause-powered g c = λ few digits room.
    let us : c.retime.new.self.space.subsystems ≡ c.args.l.now.subsystems =
    ap (λ (l : LoopValue). l.subsystems) (c.retime.ensures.space ∙ ap (λ (r : RoomsValue). r.of) c.self.view_is ∙ c.requires.same) in
    let chosen : c.retime.new.self.choice.of.value.subsystems ≡ c.args.l.now.subsystems = ap (λ (l : LoopValue). l.subsystems) c.retime.ensures.rooms.of ∙ us in
    let weights : c.retime.new.self.weights ≡ c.args.self.now.order = c.retime.ensures.weights ∙ ap (λ (r : RoomsValue). r.order) c.self.view_is in
    let order : c.retime.new.self.choice.order ≡ c.args.self.now.order = c.retime.ensures.rooms.order ∙ weights in
    let hours : c.retime.new.self.hours ≡ c.args.hours = c.retime.ensures.hours in
    let beats : c.beats_of-beats.result ≡ beats_of c.args.l.now.subsystems c.args.hours = c.beats_of-beats.ensures.beats in
    within_powers c.args.l.now.subsystems c.args.self.now.order (beats_of c.args.l.now.subsystems c.args.hours) c.digits_of.result digits _ _ Blocks
    ((rw (us, weights, hours) at c.pass_in_blocks.ensures.steps) c.digits_of.result (rw beats at c.digits_of.ensures.room))
    ((rw (chosen, order, beats) at c.in-Blocks.ensures.powered) few)
    (c.digits_of.ensures.least digits (rw beats room))
