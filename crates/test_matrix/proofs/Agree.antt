-- The tests of an hour by the tables of a loop agree with the tests of its channels, from every full state.
use Rattle.std.proofs.Common.{◌≡◌, ℕ, zero, suc, ◌+◌, ◌*◌, ◌<◌, ◌≤◌, List, [], ◌∷◌, ◌++◌, length, take, drop, get_or, true, false, refl, sym, ap, ◌∙◌, arith, inl, inr, length-take-le, length-drop}
use Rattle.std.specs.Prelude.{Bool, not, ◌&&◌, cond}
use Rattle.std.proofs.lemmas.Bool.{cases_lt}
use Rattle.std.proofs.lemmas.List.{take-append-drop, get_or_past}
use Rattle.sil_fraction.specs.Fraction.{Fraction, whole}
use Rattle.sil_fraction.proofs.Laws.{zero-le}
use Rattle.sil_model.specs.State.{FullState, is_up_of}
use Rattle.sil_model.specs.Series.{Values}
use Rattle.sil_model.specs.Calendar.{ChannelTest}
use Rattle.sil_model.specs.Pay.{one_if}
use Rattle.sil_model.specs.LoopValue.{groups_of}
use Rattle.sil_model.specs.Sizes.{channel_states, states_of}
use Rattle.sil_model.specs.Counts.{IsCounts, number_of}
use Rattle.sil_model.specs.declared.parts.Group.{Group}
use Rattle.sil_model.specs.declared.parts.Subsystem.{Subsystem}
use Rattle.count_laws.specs.GroupChannels.{GroupChannels, group_channels_of}
use Rattle.test_calendar.specs.GroupTests.{tests_of_channels, spread, spread_over}
use Rattle.test_calendar.specs.declared.groups.GroupTest.{GroupTest}
use Rattle.count_laws.specs.CountsOf.{counts_of}
use Rattle.count_laws.specs.AfterTests.{after_tests}
use Rattle.count_laws.specs.SameCounts.{IsFull}
use Rattle.lumped_laws.specs.CountsOfState.{counts_of_state, number_of_state}
use Rattle.lumped_laws.specs.StateOfCounts.{state_numbered}
use Rattle.lumped_laws.specs.ValueLists.{at_number, test_list, passing}
use Rattle.lumped_laws.specs.GroupLaws.{IsOfGroup, channels_over}
use Rattle.lumped_laws.proofs.GroupChannels.{group_laws}
use Rattle.lumped_laws.proofs.GroupCounts.{counted-valid}
use Rattle.lumped_laws.proofs.States.{numbered-full, number-numbered}
use Rattle.lumped_laws.proofs.TestHours.{after-full}
use Rattle.test_matrix.specs.Hours.{settled_of, table_list, hour_list, passing_by, AreReady, AreBelow, AreLikely, LackAtMost}
use Rattle.test_matrix.specs.Places.{AreTables, AreNumbers, settled_counts}
use Rattle.test_matrix.specs.Made.{channels_at, AreAllTables, AreVotes}
use Rattle.test_matrix.specs.declared.places.GroupTables.{GroupTables}
use Rattle.count_laws.proofs.Tests.{after-append}
use Rattle.test_matrix.proofs.Parts.{Tally, tally, in_part, part_same, by_tally}
use Rattle.test_matrix.proofs.Filled.{along_part, filled}
use Rattle.test_matrix.proofs.Leads.{group_list-is}
use Rattle.test_matrix.proofs.Lists.{list_at}

within : (gs : List Group) (g : ℕ) (d : Group) → g < length gs → channels_over (take g gs) + (get_or gs g d).size ≤ channels_over gs
within [] g d h = absurd (omega arith)
within (y ∷ gs) zero d h = omega arith
within (y ∷ gs) (suc g) d h = omega (arith, within gs g d (omega arith))

abbrev no_group : Group
no_group = record { subsystem = 0; first_channel = 0; size = 0 }

abbrev no_channels : GroupChannels
no_channels = record { first = 0; size = 0; fault = whole 0 }

-- where its tests lead
settles : (us : List Subsystem) (g : ℕ) (r : Fraction) (t : GroupTables) → AreTables us g r t → (full : Bool)
    → AreNumbers us (settled_counts full g) (settled_of full t)
settles us g r t are true = are.full
settles us g r t are false = are.partial

-- the tests of one group, from a full state in three parts
module _ (us : List Subsystem) (g : ℕ) (r : Fraction) (t : GroupTables) (are : AreTables us g r t) (full : Bool)
    (f : Values ℕ) (inside : g < length (groups_of us)) where
  abbrev gs : List Group
  gs = groups_of us

  module _ (a m b : FullState) (before : length a ≡ channels_over (take g gs)) (own : length m ≡ (get_or gs g no_group).size)
      (whole_state : length (a ++ (m ++ b)) ≡ channels_over gs) where
    abbrev pre : List ℕ
    pre = counts_of (take g gs) a

    abbrev post : List ℕ
    post = counts_of (drop (suc g) gs) b

    long : length pre ≡ channel_states * g
    long =
        let v : IsCounts (take g gs) pre = counted-valid (take g gs) a before in
        omega (arith, v.each, length-take-le g gs (omega arith))

    abbrev number_with : Tally → ℕ
    number_with u = number_of gs (filled g pre post long u)

    number_at : (x : FullState) → length x ≡ length m → number_of_state us (a ++ (x ++ b)) ≡ number_with (tally x)
    unfolding number_of_state counts_of_state
    number_at x e = ap (number_of gs) (along_part gs g no_group a x b inside before (e ∙ own))

    valid : IsCounts gs (filled g pre post long (tally m))
    valid = rw (along_part gs g no_group a m b inside before own) at (counted-valid gs (a ++ (m ++ b)) whole_state)

    in_parts : after_tests (tests_of_channels full r (length a) (length m)) (at_number us f) (a ++ (m ++ b))
        ≡ table_list r full t f (number_of_state us (a ++ (m ++ b)))
    in_parts =
        in_part r full (at_number us f) a m b
        ∙ part_same r full m (λ x. at_number us f (a ++ (x ++ b))) (λ x. f (number_with (tally x))) (λ x e. ap f (number_at x e))
        ∙ by_tally r full (λ u. f (number_with u)) m
        ∙ sym (group_list-is us g inside full t.works.items (settled_of full t) t.failed.items are.working
        (settles us g r t are full) are.failed pre post long (tally m) valid r f)
        ∙ ap (table_list r full t f) (sym (number_at m refl))

  -- and from each full state
  group_agrees : (s : FullState) → IsFull us s
      → after_tests (tests_of_channels full r (channels_over (take g gs)) (get_or gs g no_group).size) (at_number us f) s
      ≡ table_list r full t f (number_of_state us s)
  group_agrees s is_full =
      let o : ℕ = channels_over (take g gs) in
      let n : ℕ = (get_or gs g no_group).size in
      let all : length s ≡ channels_over gs = is_full ∙ sym (group_laws us).all in
      let fits : o + n ≤ channels_over gs = within gs g no_group inside in
      let parts : take o s ++ (take n (drop o s) ++ drop n (drop o s)) ≡ s = ap (λ y. take o s ++ y) (take-append-drop n (drop o s)) ∙ take-append-drop o s in
      let l : length (take o s) ≡ o = length-take-le o s (omega arith) in
      let m : length (take n (drop o s)) ≡ n = length-take-le n (drop o s) (omega (arith, length-drop o s)) in
      rw (parts, l, m) at (in_parts (take o s) (take n (drop o s)) (drop n (drop o s)) l m (ap length parts ∙ all))

module _ (us : List Subsystem) (groups : List GroupTables) (are : AreAllTables us groups) where
  abbrev pub chance : ℕ → Fraction
  chance g = (channels_at us g).fault

  some_of : (ts : List GroupTables) → 0 < length ts → GroupTables
  some_of [] h = absurd (omega arith)
  some_of (t ∷ ts) h = t

  -- all these groups exist
  abbrev Exist : List GroupTest → Type 0
  Exist tests = (k : ℕ) (e : GroupTest) → k < length tests → (get_or tests k e).group < length groups

  pub are_ready : AreReady (states_of us) groups
  are_ready g d h =
      let t : AreTables us g (chance g) (get_or groups g d) = are.tables g d h in
      record {
        fit = λ full.
            let settled : AreNumbers us (settled_counts full g) (settled_of full (get_or groups g d)) = settles us g (chance g) (get_or groups g d) t full in
            record {
              as_many = t.working.as_many;
              few = t.working.few;
              settled_places = record { as_many = settled.as_many; below = settled.below };
              failed_places = record { as_many = t.failed.as_many; below = t.failed.below };
            };
        rows = t.weights.within;
      }

  pub are_below : AreBelow chance groups
  are_below g d h = (are.tables g d h).weights.below

  pub lack_little : LackAtMost 44 groups
  lack_little g d h = (are.tables g d h).weights.lacks

  pub are_likely : AreLikely chance
  are_likely g = elim (cases_lt g (length groups)) [
    | inl h ↦ (are.tables g (some_of groups (omega arith)) h).weights.likely
    | inr h ↦
        let past : length (group_channels_of us) ≤ g = omega (arith, are.count, (group_laws us).as_many) in
        let none : channels_at us g ≡ no_channels = get_or_past (group_channels_of us) g no_channels past in
        let nothing : chance g ≡ whole 0 = ap (λ (x : GroupChannels). x.fault) none in
        rw nothing (zero-le (whole 1))
  ]

  one_agrees : (x : GroupTest) (d : GroupTables) → x.group < length groups → (f : Values ℕ) (s : FullState) → IsFull us s
      → after_tests (spread (group_channels_of us) x) (at_number us f) s ≡ table_list (chance x.group) x.full (get_or groups x.group d) f (number_of_state us s)
  one_agrees x d h f s is_full =
      let g : ℕ = x.group in
      let inside : g < length (groups_of us) = omega (arith, are.count) in
      let own : IsOfGroup us (channels_at us g) (get_or (groups_of us) g no_group) = (group_laws us).channels g no_channels no_group inside in
      rw (own.first, own.size, (group_laws us).begins g no_group inside)
      (group_agrees us g (chance g) (get_or groups g d) (are.tables g d h) x.full f inside s is_full)

  -- what is expected after an hour's tests, from a full state and at its number
  pub hour_agrees : (tests : List GroupTest) → Exist tests → (f : Values ℕ) (s : FullState) → IsFull us s
      → after_tests (spread_over us tests) (at_number us f) s ≡ hour_list chance groups tests f (number_of_state us s)
  unfolding spread_over hour_list
  hour_agrees [] h f s is_full = refl
  hour_agrees (x ∷ xs) h f s is_full =
      let one : List ChannelTest = spread (group_channels_of us) x in
      let rest : List ChannelTest = spread_over us xs in
      let later : Values ℕ = hour_list chance groups xs f in
      let exists : x.group < length groups = h 0 x (omega arith) in
      let d : GroupTables = some_of groups (omega arith) in
      after-append one rest (at_number us f) s
      ∙ after-full us one (after_tests rest (at_number us f)) (at_number us later) (hour_agrees xs (λ k e l. h (suc k) e (omega arith)) f) s is_full
      ∙ one_agrees x d exists later s is_full
      ∙ ap (λ (q : Values ℕ). q (number_of_state us s)) (sym (list_at (chance x.group) x.full groups x.group d later exists))

  module _ (tests : List GroupTest) (exist : Exist tests) where
    -- so at every number of a state
    pub test_list-is : (f : Values ℕ) (i : ℕ) → i < states_of us → test_list us (spread_over us tests) f i ≡ hour_list chance groups tests f i
    unfolding test_list
    test_list-is f i h =
        hour_agrees tests exist f (state_numbered us i) (numbered-full us i)
        ∙ ap (hour_list chance groups tests f) (number-numbered us i h)

    -- and the chance of a passage
    pub passing-is : (ups : List Bool) → AreVotes us ups → (i : ℕ) → i < states_of us
        → passing us (spread_over us tests) i ≡ passing_by (λ j. get_or ups j false) (hour_list chance groups tests) i
    unfolding passing
    passing-is ups votes i h =
        let s : FullState = state_numbered us i in
        let up : ℕ → Bool = λ j. get_or ups j false in
        let at : number_of_state us s ≡ i = number-numbered us i h in
        let here : is_up_of us s ≡ up i = sym (votes.votes s (numbered-full us i)) ∙ ap up at in
        after-full us (spread_over us tests) (λ x. one_if (is_up_of us s && not (is_up_of us x)))
        (at_number us (λ j. cond (up i) (one_if (not (up j))) (whole 0)))
        (λ x l. rw (here, ← votes.votes x l) (both (up i) (up (number_of_state us x)))) s (numbered-full us i)
        ∙ hour_agrees tests exist (λ j. cond (up i) (one_if (not (up j))) (whole 0)) s (numbered-full us i)
        ∙ ap (hour_list chance groups tests (λ j. cond (up i) (one_if (not (up j))) (whole 0))) at
      where
        both : (p q : Bool) → one_if (p && not q) ≡ cond p (one_if (not q)) (whole 0)
        both true q = refl
        both false q = refl
