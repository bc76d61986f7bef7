-- The exact figures of a loop: the real numbers that the figures of growing orders approach.
use Rattle.std.specs.Prelude.{ℕ, ◌^◌}
use Rattle.sil_fraction.specs.Fraction.{Fraction, ratio}
use Rattle.sil_model.specs.LoopValue.{LoopValue}
use Rattle.sil_model.specs.Figures.{pfd_of, pfh_of, phase_mean_of, phase_end_of}
use Rattle.limit_laws.specs.Real.{Real, IsBetween, Approaches}
use Rattle.limit_laws.specs.Bounds.{chance_error, entry_error}

-- the figures of a loop: PFDavg, PFH, the mean over a phase of the chance that it is down, and that chance at its end
pub data Figure : Type 0 where
  Pfd Pfh : Figure
  PhaseMean PhaseEnd : ℕ → Figure

-- a figure at the order n
abbrev pub figure_of : Figure → ℕ → LoopValue → Fraction
figure_of Pfd n l = pfd_of n l
figure_of Pfh n l = pfh_of n l
figure_of (PhaseMean p) n l = phase_mean_of n l p
figure_of (PhaseEnd p) n l = phase_end_of n l p

-- it differs by at most this from the figure at any greater order, and from the exact figure
abbrev pub error_of : Figure → ℕ → LoopValue → Fraction
error_of Pfd n l = chance_error n l
error_of Pfh n l = entry_error n l
error_of (PhaseMean p) n l = chance_error n l
error_of (PhaseEnd p) n l = chance_error n l

-- a number is the exact figure of a loop: the figures at growing orders approach it
pub record IsExact (f : Figure) (l : LoopValue) (r : Real) : Type 0 where
  pub limit : Approaches (λ n. figure_of f n l) r

-- the interval lo .. hi, in units of 10^-18, contains a number
pub record ContainsReal18 (lo hi : ℕ) (r : Real) : Type 0 where
  pub between : IsBetween (ratio lo (10 ^ 18)) (ratio hi (10 ^ 18)) r

-- the interval contains the exact figure of a loop: there is one, and whatever number is it lies in the interval
pub record ContainsExact18 (f : Figure) (l : LoopValue) (lo hi : ℕ) : Type 0 where
  pub exists : (r : Real) × IsExact f l r
  pub inside : (r : Real) → IsExact f l r → ContainsReal18 lo hi r
