-- Linear steps along two digits: it does not matter which comes first.
use Rattle.std.proofs.Common.{◌≡◌, ℕ, ◌<◌, sym, ap, ◌∙◌}
use mathlib.Core.Path.{fun_ext}
use Rattle.std.proofs.Math.Nat.{mul-pos}
use Rattle.sil_model.specs.Series.{Values}
use Rattle.model_laws.specs.Polynomial.{IsLinear}
use Rattle.exponential_laws.specs.Exponential.{Commute}
use Rattle.separate_laws.specs.Digits.{digit_of, with_digit, along}
use Rattle.separate_laws.specs.DigitLaws.{StaysBelow}
use Rattle.separate_laws.proofs.DigitNumbers.{digit-small}
use Rattle.separate_laws.proofs.TwoDigits.{upper, upper-kept, lower-kept, with-either}
use Rattle.separate_laws.proofs.Units.{exchanged}

module _ (stride base between other : ℕ) (some : 0 < stride) (more : 0 < base) (apart : 0 < between) (exist : 0 < other)
    (T U : Values ℕ → Values ℕ) (linear : IsLinear T) (stays : StaysBelow base T) (linear_too : IsLinear U) (stays_too : StaysBelow other U) where
  abbrev above : ℕ
  above = upper stride base between

  module _ (f : Values ℕ) (i : ℕ) where
    -- the values at the number with both digits changed
    abbrev changed : ℕ → Values ℕ
    changed x y = f (with_digit above other (with_digit stride base i x) y)

    abbrev lower : ℕ
    lower = digit_of stride base i

    abbrev higher : ℕ
    higher = digit_of above other i

    lower-first : along stride base T (along above other U f) i ≡ T (λ x. U (changed x) higher) lower
    lower-first = stays.same (λ x. along above other U f (with_digit stride base i x)) (λ x. U (changed x) higher)
        (λ x p. ap (U (changed x)) (upper-kept stride base between other some more apart exist i x p)) lower (digit-small stride base some i more)

    upper-first : along above other U (along stride base T f) i ≡ U (λ y. T (λ x. changed x y) lower) higher
    upper-first =
        let each : (y : ℕ) → along stride base T f (with_digit above other i y) ≡ T (λ x. changed x y) lower =
        λ y. ap (T (λ x. f (with_digit stride base (with_digit above other i y) x))) (lower-kept stride base between other some more apart exist i y)
        ∙ stays.same (λ x. f (with_digit stride base (with_digit above other i y) x)) (λ x. changed x y)
        (λ x p. ap f (sym (with-either stride base between other some more apart exist i x y p))) lower (digit-small stride base some i more) in
        ap (λ (g : Values ℕ). U g higher) (fun_ext each)

    either-first : along stride base T (along above other U f) i ≡ along above other U (along stride base T f) i
    either-first =
        let positive : 0 < above = mul-pos (mul-pos some more) apart in
        lower-first ∙ exchanged other U linear_too stays_too T linear changed lower higher (digit-small above other positive i exist) ∙ sym upper-first

  pub commute-along : Commute (along stride base T) (along above other U)
  commute-along = record { either = λ f. fun_ext (either-first f) }
