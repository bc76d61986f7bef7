-- Fractions of whole numbers, none below 0. Equal values are equal fractions.
use Rattle.std.specs.Prelude.{◌≡◌, ℕ, IsTrue}
use mathlib.Core.Path.{fun_ext}
use mathlib.Core.Bool.{Bool-set}
use mathlib.Core.Quot.{Quot, mk, sound, Quot-set, lift, ind}
use mathlib.Core.HLevel.{Π_set}
use Rattle.sil_fraction.specs.Ratio.{Ratio, Same, add, mul, sub, below, turn, whole_ratio, add_left, add_right, mul_left, mul_right, sub_left, sub_right, below_left, below_right, turn_same}

-- a fraction is two whole numbers, the lower one above 0, up to equal value
unfoldable pub Fraction : Type 0
Fraction = Quot Same

-- the fraction that a ratio has as its value
unfoldable pub of : Ratio → Fraction
unfolding Fraction
of a = mk a

pub Fraction-set : IsSet Fraction
unfolding Fraction
Fraction-set = Quot-set

-- an operation on ratios that gives equal values at equal values
module _ {B : Type 0} (set : IsSet B) where
  abbrev pub lift_two : (f : Ratio → Ratio → B) → ((a b c : Ratio) → Same a b → f a c ≡ f b c) → ((a b c : Ratio) → Same b c → f a b ≡ f a c) → Quot Same → Quot Same → B
  lift_two f left right x y =
      lift {r = Same} (Π_set (λ (_ : Quot Same). set))
      (λ a. lift {r = Same} set (f a) (λ b c h. right a b c h))
      (λ a b h. fun_ext (ind {r = Same} (λ q. set _ _) (λ c. left a b c h)))
      x y

infix 50 ◌≤ℚ◌
infixl 65 ◌+ℚ◌ ◌-ℚ◌
infixl 70 ◌*ℚ◌
unfoldable pub ◌+ℚ◌ : Fraction → Fraction → Fraction
unfolding Fraction
x +ℚ y = lift_two Quot-set (λ a b. mk (add a b)) (λ a b c h. sound (add_left a b c h)) (λ a b c h. sound (add_right a b c h)) x y

-- 0 where y is above x
unfoldable pub ◌-ℚ◌ : Fraction → Fraction → Fraction
unfolding Fraction
x -ℚ y = lift_two Quot-set (λ a b. mk (sub a b)) (λ a b c h. sound (sub_left a b c h)) (λ a b c h. sound (sub_right a b c h)) x y

unfoldable pub ◌*ℚ◌ : Fraction → Fraction → Fraction
unfolding Fraction
x *ℚ y = lift_two Quot-set (λ a b. mk (mul a b)) (λ a b c h. sound (mul_left a b c h)) (λ a b c h. sound (mul_right a b c h)) x y

-- 1 divided by x, and 0 for 0
unfoldable pub inverse : Fraction → Fraction
unfolding Fraction
inverse x = lift {r = Same} Quot-set (λ a. mk (turn a)) (λ a b h. sound (turn_same a b h)) x

unfoldable pub ◌≤ℚ◌ : Fraction → Fraction → Type 0
unfolding Fraction
x ≤ℚ y = IsTrue (lift_two Bool-set below below_left below_right x y)

unfoldable pub whole : ℕ → Fraction
whole n = of (whole_ratio n)

-- n / d, and 0 where d is 0
abbrev pub ratio : ℕ → ℕ → Fraction
ratio n d = whole n *ℚ inverse (whole d)
