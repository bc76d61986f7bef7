-- The file of one channel is sound: the checker reads it, and counts its tests and beats.
use Rattle.std.proofs.Common.{◌≡◌, ℕ, zero, suc, List, [], ◌∷◌, ◌++◌, length, Some, None, codes, pos, refl, ap, arith}
use Rattle.std.specs.Prelude.{filter, not, sum_by}
use Rattle.std.specs.Str.{is_utf8, chars}
use Rattle.toml.specs.Data.{Members, no_members, member, integer, string, array, table, item, no_items}
use Rattle.toml.proofs.OnLiterals.{toml_on_literals}
use Rattle.sil_text.specs.Name.{is_name_text}
use Rattle.sil_text.specs.Parts.{leading_digits, after_digits, fraction_of, after_fraction, sign_of, after_sign, exponent_of, parts_of, is_exponent, is_decimal, count_of, reading_of, rate_of}
use Rattle.sil_model.specs.LoopValue.{groups_of}
use Rattle.sil_model.specs.Calendar.{Phase, is_empty, upto, tests_at, test_hours_of, phases_of, phases_from, beats_of, beat_rate_of}
use Rattle.sil_model.specs.Sizes.{states_of, all_beats_of, work_of, channel_tests_of, first_limit_of}
use Rattle.loop_file.specs.LoopFile.{IsLoopOf, checks_of, loop_of}
use Rattle.loop_file.specs.Tree.{tree_of}
use Rattle.loop_file.specs.Walk.{first_fault}
use Rattle.complete_run.specs.OneChannel.{one_channel}
use Rattle.complete_run.specs.Whole.{AreSound}

-- the bytes, as the code has them

abbrev comment : List ℕ
comment =
    codes "# One transmitter with one dangerous undetected failure in a million hours, a mission of a year and no test at all.\n"
    ++ (codes "# PFDavg has the closed form 1 - (1 - e^-x)/x with x = 0.00876, which is 0.0043672383602...: inside the interval.\n"
    ++ codes "# The smallest loop there is; a start for a file of one's own.\n")

abbrev bytes : List ℕ
bytes =
    comment
    ++ (codes "version = 1\nmission = 8760\n"
    ++ codes "[[subsystem]]\nname = \"sif\"\nvote = \"1oo1\"\ndu = \"1.0E-6\"\nrepair = 8\n")

-- their tree, and the loop of it

subsystem : Members
subsystem =
    member (codes "du") (string (codes "1.0E-6")) (member (codes "name") (string (codes "sif"))
    (member (codes "repair") (integer (pos 8)) (member (codes "vote") (string (codes "1oo1")) no_members)))

tree : Members
tree =
    member (codes "mission") (integer (pos 8760)) (member (codes "subsystem") (array (item (table subsystem) no_items))
    (member (codes "version") (integer (pos 1)) no_members))

toml : tree_of bytes ≡ Some tree
unfolding toml_on_literals is_utf8 chars tree subsystem
toml = refl

pass : first_fault (checks_of tree) ≡ None
unfolding tree subsystem checks_of is_name_text leading_digits after_digits fraction_of after_fraction sign_of after_sign exponent_of parts_of is_exponent is_decimal count_of reading_of rate_of
pass = refl

value : one_channel ≡ loop_of tree
unfolding tree subsystem loop_of is_name_text leading_digits after_digits fraction_of after_fraction sign_of after_sign exponent_of parts_of is_exponent is_decimal count_of reading_of rate_of
value = refl

is_loop : IsLoopOf bytes one_channel
is_loop = record { tree = tree; toml = toml; pass = pass; value = value }

-- no hour has a test, so there is one phase

none_tested : (i n : ℕ) → filter (λ t. not (is_empty (tests_at one_channel t))) (upto i n) ≡ []
unfolding tests_at
none_tested i zero = refl
none_tested i (suc n) = none_tested (suc i) n

none_counted : (i n : ℕ) → sum_by (λ t. length (tests_at one_channel t)) (upto i n) ≡ 0
unfolding tests_at
none_counted i zero = refl
none_counted i (suc n) = none_counted (suc i) n

tests : channel_tests_of one_channel ≡ 0
unfolding channel_tests_of
tests = none_counted 0 8760

one_phase : phases_of one_channel ≡ record { start = 0; hours = 8760 } ∷ []
unfolding phases_of test_hours_of
one_phase = ap (λ (hours : List ℕ). phases_from 8760 0 hours) (none_tested 0 8760)

beats : all_beats_of one_channel ≡ 1096
unfolding all_beats_of beats_of beat_rate_of
beats = ap (λ (ps : List Phase). sum_by (λ p. beats_of one_channel.subsystems p.hours) ps) one_phase

within : first_limit_of one_channel 28 ≡ None
unfolding first_limit_of work_of states_of groups_of
within = rw (tests, beats) refl

pub one_channel_is_sound : AreSound bytes one_channel
one_channel_is_sound = record { short = omega arith; is_loop = is_loop; within = within }
