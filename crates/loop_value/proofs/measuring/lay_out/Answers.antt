use Rattle.std.proofs.Common.{◌≤◌, rules}
use Rattle.sil_model.specs.Sizes.{channel_tests_of, states_of, most_states_of, most_tests}
use Rattle.loop_value.proofs.Limits.{tests_not_first, states_not_first}
use Rattle.loop_value.proofs.measuring.lay_out.Goals as goal

-- out of memory only where neither the tests nor the states are too many

pub returns-in-Err-Memory-clause-too_many_tests : goal.returns-in-Err-Memory-clause-too_many_tests
returns-in-Err-Memory-clause-too_many_tests c n =
    let tests : channel_tests_of c.args.l.now ≤ most_tests = search rules in
    let states : states_of c.args.l.now.subsystems ≤ most_states_of c.args.l.now = search rules in
    (λ e. cc, λ e. absurd (tests_not_first c.args.l.now c.args.order tests states n e))

pub returns-in-Err-Memory-clause-too_many_states : goal.returns-in-Err-Memory-clause-too_many_states
returns-in-Err-Memory-clause-too_many_states c n =
    let tests : channel_tests_of c.args.l.now ≤ most_tests = search rules in
    let states : states_of c.args.l.now.subsystems ≤ most_states_of c.args.l.now = search rules in
    (λ e. cc, λ e. absurd (states_not_first c.args.l.now c.args.order tests states n e))
