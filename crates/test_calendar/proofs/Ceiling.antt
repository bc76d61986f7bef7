-- Division that rounds up.
use Rattle.std.proofs.Common.{◌≡◌, ℕ, zero, suc, ◌+◌, ◌-◌, ◌*◌, ◌/◌, ◌%◌, ◌<◌, refl, arith, inl, inr}
use Rattle.std.specs.Prelude.{min, Bool, cond, ◌==◌}
use Rattle.std.proofs.Math.Dec.{eqb-suc-zero}
use Rattle.std.proofs.lemmas.Nat.{mod-mul-add, div-mul-add, div-add-mod', mod_below}
use Rattle.std.proofs.lemmas.Bool.{cases_lt}
use Rattle.sil_model.specs.Calendar.{ceiling}

ceiling_of : (n d q r : ℕ) → 0 < d → n / d ≡ q → n % d ≡ r → q * d + r ≡ n → r < d → ceiling n d ≡ n / d + min 1 (n % d)
ceiling_of n d q zero p a b s l =
    let k : n + (d - 1) ≡ q * d + (d - 1) = omega arith in
    let m : d - 1 < d = omega arith in
    rw (a, b, k, div-mul-add q d (d - 1) m) (omega arith)
ceiling_of n d q (suc r) p a b s l =
    let k : n + (d - 1) ≡ suc q * d + r = omega arith in
    let m : r < d = omega arith in
    rw (a, b, k, div-mul-add (suc q) d r m) (omega arith)

-- as `div_ceil` has it
pub ceiling_as : (n d : ℕ) → 0 < d → ceiling n d ≡ n / d + min 1 (n % d)
ceiling_as n d h = ceiling_of n d (n / d) (n % d) h refl refl (div-add-mod' n d) (mod_below n d h)

-- 1 where a test holds, else 0
abbrev pub one_if : Bool → ℕ
one_if b = cond b 1 0

next_of : (d e q r : ℕ) → 0 < e → d / e ≡ q → d % e ≡ r → q * e + r ≡ d → r < e → suc d / e + min 1 (suc d % e) ≡ d / e + min 1 (d % e) + one_if (d % e == 0)
next_of d e q zero p a b s l = elim (cases_lt 1 e) [
  | inl h ↦
      let k : suc d ≡ q * e + 1 = omega arith in
      rw (a, b, k, div-mul-add q e 1 h, mod-mul-add q e 1 h) (omega arith)
  | inr h ↦
      let k : suc d ≡ suc q * e + 0 = omega arith in
      rw (a, b, k, div-mul-add (suc q) e 0 p, mod-mul-add (suc q) e 0 p) (omega arith)
]
next_of d e q (suc r) p a b s l = elim (cases_lt (suc (suc r)) e) [
  | inl h ↦
      let k : suc d ≡ q * e + suc (suc r) = omega arith in
      rw (a, b, k, div-mul-add q e (suc (suc r)) h, mod-mul-add q e (suc (suc r)) h, eqb-suc-zero r) (omega arith)
  | inr h ↦
      let k : suc d ≡ suc q * e + 0 = omega arith in
      rw (a, b, k, div-mul-add (suc q) e 0 p, mod-mul-add (suc q) e 0 p, eqb-suc-zero r) (omega arith)
]

-- one hour more makes one more where a whole number of steps ended there
pub ceiling-next : (d e : ℕ) → 0 < e → ceiling (suc d) e ≡ ceiling d e + one_if (d % e == 0)
ceiling-next d e h = rw (ceiling_as (suc d) e h, ceiling_as d e h) (next_of d e (d / e) (d % e) h refl refl (div-add-mod' d e) (mod_below d e h))
