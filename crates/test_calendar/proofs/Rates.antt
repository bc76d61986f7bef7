-- The beat rate, subsystem by subsystem.
use Rattle.std.proofs.Common.{◌≡◌, ℕ, ◌+◌, ◌*◌, ◌^◌, ◌<◌, List, length, get_or, take, refl, ap}
use Rattle.std.proofs.lemmas.List.Sums.{sum_by_more}
use Rattle.std.proofs.Math.Seq.{take-length}
use Rattle.sil_model.specs.declared.parts.Subsystem.{Subsystem}
use Rattle.sil_model.specs.Calendar.{beat_rate_of, ceiling}

-- what one subsystem adds
abbrev pub rate_in : Subsystem → ℕ
rate_in u = u.vote.n * (u.figures.du + u.figures.dd + ceiling (10 ^ 12) u.figures.repair)

pub beat_rate-none : (us : List Subsystem) → beat_rate_of (take 0 us) ≡ 0
unfolding beat_rate_of
beat_rate-none us = refl

pub beat_rate-more : (us : List Subsystem) (i : ℕ) (d : Subsystem) → i < length us → beat_rate_of (take (i + 1) us) ≡ beat_rate_of (take i us) + rate_in (get_or us i d)
unfolding beat_rate_of
beat_rate-more us i d h = sum_by_more rate_in us i d h

pub beat_rate-all : (us : List Subsystem) (i : ℕ) → i ≡ length us → beat_rate_of (take i us) ≡ beat_rate_of us
beat_rate-all us i e = rw e (ap beat_rate_of (take-length us))
