-- A product more on one of several sums of products, as a number more in the list of the sums.
use Rattle.std.proofs.Common.{◌≡◌, ℕ, ◌+◌, ◌<◌, ◌≤◌, ◌≢◌, List, length, get_or, set, refl, ap, ◌∙◌, arith, inl, inr, get_or-set_other, get_or-set_same, sum}
use Rattle.std.proofs.lemmas.List.{map-set, get_or-map, length-map}
use Rattle.std.proofs.lemmas.Bool.{cases_lt}
use Rattle.sil_fraction.specs.Fraction.{whole}
use Rattle.sil_model.specs.Series.{Values}
use Rattle.interval_fixed.specs.DotValue.{DotValue}
use Rattle.vector_laws.specs.Vectors.{weigh}
use Rattle.test_matrix.specs.Spread.{sums_of}
use Rattle.vector_laws.proofs.Masses.{sum-none}
use Rattle.vector_laws.proofs.Weighing.{weigh_of_nothing}

abbrev pub no_dot : DotValue
no_dot = record { sum = 0; number = 0 }

module _ (old new : List DotValue) (at p : ℕ) (inside : at < length old)
    (is : (d : DotValue) → new ≡ set old at (record { sum = (get_or old at d).sum + p; number = (get_or old at d).number + 1 })) where
  pub sums_after : sums_of new ≡ set (sums_of old) at (get_or (sums_of old) at 0 + p)
  sums_after = ap sums_of (is no_dot) ∙ rw (map-set, get_or-map (λ (d : DotValue). d.sum) old at no_dot 0 inside) refl

  pub number_after : (j : ℕ) (d : DotValue) → (get_or new j d).number ≤ (get_or old j d).number + 1
  number_after j d = rw (is d) (elim (cases_lt j at) [
    | inl below ↦ let ne : j ≢ at = omega arith in rw get_or-set_other (omega arith)
    | inr from_here ↦ elim (cases_lt at j) [
      | inl above ↦ let ne : j ≢ at = omega arith in rw get_or-set_other (omega arith)
      | inr here ↦ let e : j ≡ at = omega arith in rw (e, get_or-set_same) (omega arith)
    ]
  ])

-- sums of no product
module _ (dots : List DotValue) (empty : (j : ℕ) (d : DotValue) → j < length dots → get_or dots j d ≡ no_dot) where
  pub mass_of_no_dots : sum (sums_of dots) ≡ 0
  mass_of_no_dots = sum-none (sums_of dots) (λ k h.
      let l : k < length dots = omega (arith, length-map dots (λ (d : DotValue). d.sum)) in
      get_or-map (λ (d : DotValue). d.sum) dots k no_dot 0 l ∙ ap (λ (d : DotValue). d.sum) (empty k no_dot l))

  pub weigh_of_no_dots : (f : Values ℕ) → weigh (sums_of dots) f ≡ whole 0
  weigh_of_no_dots f = weigh_of_nothing (sums_of dots) f mass_of_no_dots
