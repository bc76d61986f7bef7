use Rattle.std.proofs.Common.{◌<◌, ◌≤◌, arith}
use Rattle.sil_model.specs.Sizes.{channel_tests_of, states_of, most_tests, most_states_of}
use Rattle.loop_value.proofs.Limits.{tests_first, states_first}
use Rattle.loop_value.proofs.measuring.counted_states.Goals as goal

pub returns-then-tests-gt-MOST_TESTS-clause-first : goal.returns-then-tests-gt-MOST_TESTS-clause-first
returns-then-tests-gt-MOST_TESTS-clause-first c f order same =
    let many : most_tests < channel_tests_of c.args.l.now = omega arith in
    cc (tests_first c.args.l.now order many, c.channel_tests-tests.ensures.tests, same)

pub returns-then-states-most_states-clause-first : goal.returns-then-states-most_states-clause-first
returns-then-states-most_states-clause-first c f order same =
    let few : channel_tests_of c.args.l.now ≤ most_tests = omega arith in
    let many : most_states_of c.args.l.now < states_of c.args.l.now.subsystems =
    omega (arith, c.most_states.ensures.limit, c.state_count-states.ensures.count, c.if-states-most_states.true) in
    cc (states_first c.args.l.now order few many, c.state_count-states.ensures.count, same)
