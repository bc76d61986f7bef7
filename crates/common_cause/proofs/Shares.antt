-- The share of the repair crews: what it is of whole numbers, and that it goes by the counts.
use Rattle.std.proofs.Common.{◌≡◌, ℕ, zero, suc, ◌+◌, ◌<◌, List, [], ◌∷◌, length, get_or, drop, refl, sym, ap, ◌∙◌, arith, add-one}
use Rattle.std.proofs.Math.Seq.{drop-cons}
use Rattle.sil_fraction.proofs.Laws.{whole-ratio}
use Rattle.sil_model.specs.State.{FullState}
use Rattle.sil_model.specs.Events.{share_of, in_repair_of}
use Rattle.sil_model.specs.LoopValue.{groups_of, groups_from, groups_by_test}
use Rattle.sil_model.specs.declared.parts.Chan.TheVariants.{Repair}
use Rattle.sil_model.specs.declared.parts.Group.{Group}
use Rattle.sil_model.specs.declared.parts.Subsystem.{Subsystem}
use Rattle.count_laws.specs.CountsOf.{counts_of}
use Rattle.lumped_laws.specs.CountsOfState.{counts_of_state}
use Rattle.channel_counts.specs.GroupSums.{sum_in}
use Rattle.channel_counts.proofs.Counting.{At, advance, channels_in, summed}
use Rattle.channel_counts.proofs.Counting.At.{here}
use Rattle.channel_counts.proofs.Subsystems.{channels-by_test, span-same}
use Rattle.common_cause.specs.declared.share.Share.{Share}
use Rattle.common_cause.specs.LumpEvents.{span_of}
use Rattle.common_cause.specs.LumpedRates.{shares_from}
use Rattle.common_cause.specs.Shares.{share_in, share_value, IsSmallShare, IsShareOf, shares_by_counts, share_at}

-- the one place that knows what the share is
pub share-law : (u : Subsystem) (n : ℕ) → IsShareOf u n (share_in u n)
unfolding share_of share_in
share-law u n = record { value = sym (whole-ratio 1); parts = record { some = omega arith; most = omega arith; small = omega arith } }

pub shares-small : (us : List Subsystem) (g : ℕ) (cs : List ℕ) (i : ℕ) → IsSmallShare (shares_by_counts g us cs i)
shares-small [] g cs i = record { some = omega arith; most = omega arith; small = omega arith }
shares-small (u ∷ us) g cs zero = (share-law u (sum_in cs g (span_of u) Repair)).parts
shares-small (u ∷ us) g cs (suc i) = shares-small us (g + span_of u) cs i

-- the share at a full state is that at its counts
module _ (gs : List Group) (s : FullState) where
  shares-same : (us : List Subsystem) (j g a : ℕ) → At gs g a (groups_from j us) → (i : ℕ)
      → shares_from a us s i ≡ share_value (shares_by_counts g us (counts_of gs s) i)
  shares-same [] j g a p i = whole-ratio 1
  shares-same (u ∷ us) j g a p zero =
      let many : length (groups_by_test j u.vote.n u.test) ≡ span_of u = span-same j 0 u.vote.n u.test in
      let size : channels_in (groups_by_test j u.vote.n u.test) ≡ u.vote.n = channels-by_test j u.vote.n u.test in
      let counted : sum_in (counts_of gs s) g (span_of u) Repair ≡ in_repair_of a u.vote.n s =
      rw many at (rw size at (summed Repair (groups_by_test j u.vote.n u.test) (groups_from (suc j) us) p refl s)) in
      rw counted (sym ((share-law u (in_repair_of a u.vote.n s)).value))
  shares-same (u ∷ us) j g a p (suc i) =
      let many : length (groups_by_test j u.vote.n u.test) ≡ span_of u = span-same j 0 u.vote.n u.test in
      let size : channels_in (groups_by_test j u.vote.n u.test) ≡ u.vote.n = channels-by_test j u.vote.n u.test in
      let later : At gs (g + span_of u) (a + u.vote.n) (groups_from (suc j) us) =
      rw many at (rw size at (advance (groups_by_test j u.vote.n u.test) (groups_from (suc j) us) p)) in
      shares-same us (suc j) (g + span_of u) (a + u.vote.n) later i

pub share-counted : (us : List Subsystem) (s : FullState) (i : ℕ) → shares_from 0 us s i ≡ share_value (share_at us (counts_of_state us s) i)
unfolding groups_of counts_of_state
share-counted us s i = shares-same (groups_from 0 us) s us 0 0 0 here i

-- one subsystem after another, to the one that is asked for
abbrev pub SharesLeft : List Subsystem → List ℕ → ℕ → ℕ → ℕ → Type 0
SharesLeft us cs n k g = (i : ℕ) → k + i ≡ n → shares_by_counts g (drop k us) cs i ≡ share_at us cs n

pub shares-start : (us : List Subsystem) (cs : List ℕ) (n : ℕ) → SharesLeft us cs n 0 0
shares-start us cs n i e = let same : i ≡ n = omega (arith, e) in rw same refl

pub shares-next : (us : List Subsystem) (cs : List ℕ) (n k g groups : ℕ) (u d : Subsystem) → k < length us → u ≡ get_or us k d → groups ≡ span_of u
    → SharesLeft us cs n k g → SharesLeft us cs n (k + 1) (g + groups)
shares-next us cs n k g groups u d inside is many left i e =
    let all : drop k us ≡ u ∷ drop (suc k) us = drop-cons us k d inside ∙ ap (λ x. x ∷ drop (suc k) us) (sym is) in
    let later : shares_by_counts g (drop k us) cs (suc i) ≡ share_at us cs n = left (suc i) (omega (arith, e)) in
    rw (add-one k, many) (rw all at later)

pub shares-end : (us : List Subsystem) (cs : List ℕ) (n g groups : ℕ) (u d : Subsystem) (share : Share) → n < length us → u ≡ get_or us n d
    → groups ≡ span_of u → share ≡ share_in u (sum_in cs g groups Repair) → SharesLeft us cs n n g → share ≡ share_at us cs n
shares-end us cs n g groups u d share inside is many e left =
    let all : drop n us ≡ u ∷ drop (suc n) us = drop-cons us n d inside ∙ ap (λ x. x ∷ drop (suc n) us) (sym is) in
    e ∙ ap (λ m. share_in u (sum_in cs g m Repair)) many ∙ (rw all at (left 0 (omega arith)))
