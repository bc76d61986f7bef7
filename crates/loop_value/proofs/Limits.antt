-- Which limit of a loop is the first that is exceeded.
use Rattle.std.proofs.Common.{◌≡◌, ℕ, ◌<◌, ◌≤◌, refl}
use Rattle.std.specs.Prelude.{Bool, true, false, Some, None, if◌then◌else◌, nat_lt}
use Rattle.std.proofs.lemmas.Bool.{lt-ltb, le-ltb}
use Rattle.sil_model.specs.LoopValue.{LoopValue}
use Rattle.sil_model.specs.Sizes.{first_limit_of, channel_tests_of, states_of, all_beats_of, work_of, most_tests, most_states_of, most_beats, most_work_of}
use Rattle.sil_model.specs.declared.answers.LimitFault.TheVariants.{TooManyTests, TooManyStates, TooManyBeats, TooMuchWork}

module _ (l : LoopValue) (order : ℕ) where
  pub tests_first : most_tests < channel_tests_of l → first_limit_of l order ≡ Some (TooManyTests (channel_tests_of l))
  unfolding first_limit_of
  tests_first h = rw (lt-ltb most_tests (channel_tests_of l) h) refl

  module _ (tests : channel_tests_of l ≤ most_tests) where
    pub states_first : most_states_of l < states_of l.subsystems → first_limit_of l order ≡ Some (TooManyStates (states_of l.subsystems))
    unfolding first_limit_of
    states_first h = rw (le-ltb most_tests (channel_tests_of l) tests, lt-ltb (most_states_of l) (states_of l.subsystems) h) refl

    module _ (states : states_of l.subsystems ≤ most_states_of l) where
      pub beats_first : most_beats < all_beats_of l → first_limit_of l order ≡ Some (TooManyBeats (all_beats_of l))
      unfolding first_limit_of
      beats_first h = rw (le-ltb most_tests (channel_tests_of l) tests, le-ltb (most_states_of l) (states_of l.subsystems) states, lt-ltb most_beats (all_beats_of l) h) refl

      module _ (beats : all_beats_of l ≤ most_beats) where
        pub work_first : most_work_of l < work_of l order → first_limit_of l order ≡ Some (TooMuchWork (work_of l order))
        unfolding first_limit_of
        work_first h = rw (le-ltb most_tests (channel_tests_of l) tests, le-ltb (most_states_of l) (states_of l.subsystems) states, le-ltb most_beats (all_beats_of l) beats, lt-ltb (most_work_of l) (work_of l order) h) refl

        pub none_first : work_of l order ≤ most_work_of l → first_limit_of l order ≡ None
        unfolding first_limit_of
        none_first h = rw (le-ltb most_tests (channel_tests_of l) tests, le-ltb (most_states_of l) (states_of l.subsystems) states, le-ltb most_beats (all_beats_of l) beats, le-ltb (most_work_of l) (work_of l order) h) refl

      -- then neither the tests nor the states are the first limit
      module _ (n : ℕ) where
        not_tests : (b w : Bool) → (if b then Some (TooManyBeats (all_beats_of l)) else if w then Some (TooMuchWork (work_of l order)) else None) ≡ Some (TooManyTests n) → ⊥
        not_tests true w e = cc
        not_tests false true e = cc
        not_tests false false e = cc

        not_states : (b w : Bool) → (if b then Some (TooManyBeats (all_beats_of l)) else if w then Some (TooMuchWork (work_of l order)) else None) ≡ Some (TooManyStates n) → ⊥
        not_states true w e = cc
        not_states false true e = cc
        not_states false false e = cc

        pub tests_not_first : first_limit_of l order ≡ Some (TooManyTests n) → ⊥
        unfolding first_limit_of
        tests_not_first e = not_tests (nat_lt most_beats (all_beats_of l)) (nat_lt (most_work_of l) (work_of l order)) (rw (le-ltb most_tests (channel_tests_of l) tests, le-ltb (most_states_of l) (states_of l.subsystems) states) at e)

        pub states_not_first : first_limit_of l order ≡ Some (TooManyStates n) → ⊥
        unfolding first_limit_of
        states_not_first e = not_states (nat_lt most_beats (all_beats_of l)) (nat_lt (most_work_of l) (work_of l order)) (rw (le-ltb most_tests (channel_tests_of l) tests, le-ltb (most_states_of l) (states_of l.subsystems) states) at e)
