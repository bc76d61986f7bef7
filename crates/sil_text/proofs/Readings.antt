-- The grammar fixes each answer, and the function of the text gives it.
use Rattle.std.proofs.Common.{◌≡◌, ◌≢◌, ℕ, ◌+◌, ◌-◌, ◌*◌, ◌/◌, ◌%◌, ◌^◌, ◌<◌, ◌≤◌, Bool, true, false, eqb, leb, inl, inr, List, Option, Some, None, Result, Ok, Err, refl, sym, ap, ◌∙◌, subst, arith}
use Rattle.std.specs.Option.{SomeIff, ok_or}
use Rattle.std.proofs.Math.Nat.{mul-div_cancel, mul-mod_left}
use Rattle.std.proofs.lemmas.Nat.{div-add-mod'}
use Rattle.std.proofs.lemmas.Bool.{cases_eq, cases_lt}
use Rattle.std.proofs.lemmas.Bool.Decides.{nat_tests, not_from_Decides}
use Rattle.sil_text.specs.declared.fault.TextFault.{TextFault}
use Rattle.sil_text.specs.declared.fault.TextFault.TheVariants.{NotDecimal, TooFine, TooLarge, NotName, NotChoice}
use Rattle.sil_text.specs.declared.scan.Scanned.{Scanned}
use Rattle.sil_text.specs.Values.{IsValueOf}
use Rattle.sil_text.specs.Decimal.{Decimal, IsDecimal, dividend_of, divisor_of, number_of}
use Rattle.sil_text.specs.Parts.{parts_of, is_decimal, count_of, reading_of}
use Rattle.sil_text.specs.Reading.{IsWritten, IsCount, IsNoDecimal, IsCountOf, IsReading}
use Rattle.sil_text.proofs.Cuts.{parts_of_text, text_of_parts}
use Rattle.sil_text.proofs.TenPowers.{ten_pos, raised}
use Rattle.sil_text.proofs.Decisions.{decides_decimal}

-- The count of a dividend that is some units of the divisor, and of one that is not.
within : (u m g : ℕ) → 0 < m → u ≤ g → count_of (u * m) m g ≡ Ok u
unfolding count_of
within u m g pos h =
    let rest = mul-mod_left u m in
    let units = mul-div_cancel u pos in
    let few : leb u g ≡ true = grind (arith, nat_tests) in
    rw (rest, units, few) refl

above : (u m g : ℕ) → 0 < m → g < u → count_of (u * m) m g ≡ Err TooLarge
unfolding count_of
above u m g pos h =
    let rest = mul-mod_left u m in
    let units = mul-div_cancel u pos in
    let many : leb u g ≡ false = grind (arith, nat_tests) in
    rw (rest, units, many) refl

between : (n m g : ℕ) → n % m ≢ 0 → count_of n m g ≡ Err TooFine
unfolding count_of
between n m g h =
    let rest : eqb (n % m) 0 ≡ false = grind (arith, nat_tests) in
    rw rest refl

whole : (n m : ℕ) → n % m ≡ 0 → n ≡ n / m * m
whole n m h = omega (arith, div-add-mod' n m)

-- Of a dividend and a divisor there is one count.
pub count_is : (n m g : ℕ) (r : Result ℕ TextFault) → 0 < m → IsCount n m g r → r ≡ count_of n m g
count_is n m g (Ok u) pos h = sym (ap (λ k. count_of k m g) h.0 ∙ within u m g pos h.1)
count_is n m g (Err NotDecimal) pos h = absurd h
count_is n m g (Err TooFine) pos h = sym (between n m g (λ none. h (n / m) (whole n m none)))
count_is n m g (Err TooLarge) pos h = sym (ap (λ k. count_of k m g) h.1 ∙ above h.0 m g pos h.2)
count_is n m g (Err NotName) pos h = absurd h
count_is n m g (Err NotChoice) pos h = absurd h

pub count_of_is_count : (n m g : ℕ) → 0 < m → IsCount n m g (count_of n m g)
count_of_is_count n m g pos =
    let Counts : Result ℕ TextFault → Type 0 = λ r. IsCount n m g r in
    elim (cases_eq (n % m) 0) [
      | inl none ↦
          let units = whole n m none in
          elim (cases_lt g (n / m)) [
            | inl many ↦ subst Counts (sym (ap (λ k. count_of k m g) units ∙ above (n / m) m g pos many)) (n / m, units, many)
            | inr few ↦ subst Counts (sym (ap (λ k. count_of k m g) units ∙ within (n / m) m g pos few)) (units, few)
          ]
      | inr some ↦ subst Counts (sym (between n m g some)) (λ u e. some (ap (λ k. k % m) e ∙ mul-mod_left u m))
    ]

-- A product that is at most the greatest, or above it, is a count.
pub count_from_product : (o : Option ℕ) (number r l g : ℕ) → l ≤ r → SomeIff o (number * 10 ^ (r - l) ≤ g) (number * 10 ^ (r - l)) → IsCount (number * 10 ^ r) (10 ^ l) g (ok_or o TooLarge)
count_from_product None number r l g h above = (number * 10 ^ (r - l), raised number r l h, omega (arith, above))
count_from_product (Some units) number r l g h within = (raised number r l h ∙ sym (ap (λ n. n * 10 ^ l) within.1), omega arith)

-- The answer at a text that is a decimal, and at one that is none.
at_decimal : (p g : ℕ) (text : List ℕ) → IsDecimal (parts_of text) → reading_of p g text ≡ count_of (dividend_of p (parts_of text)) (divisor_of (parts_of text)) g
unfolding reading_of
at_decimal p g text h =
    let test = (decides_decimal (parts_of text)).1 h in
    rw test refl

at_other : (p g : ℕ) (text : List ℕ) → ¬ IsDecimal (parts_of text) → reading_of p g text ≡ Err NotDecimal
unfolding reading_of
at_other p g text h =
    let test : is_decimal (parts_of text) ≡ false = grind (arith, decides_decimal (parts_of text)) in
    rw test refl

-- A text has the parts of one decimal at most.
pub one_decimal : (d : Decimal) (text : List ℕ) → IsWritten d text → parts_of text ≡ d
one_decimal d text h = ap parts_of (sym h.text) ∙ parts_of_text d h.decimal

pub parts_are_written : (text : List ℕ) → IsDecimal (parts_of text) → IsWritten (parts_of text) text
parts_are_written text h = record { decimal = h; text = text_of_parts text }

pub no_parts : (text : List ℕ) → ¬ IsDecimal (parts_of text) → IsNoDecimal text
no_parts text h d w = h (subst IsDecimal (sym (one_decimal d text w)) w.decimal)

count_reads : (p g : ℕ) (text : List ℕ) (r : Result ℕ TextFault) → IsCountOf p g text r → r ≡ reading_of p g text
count_reads p g text r h =
    let same = one_decimal h.0 text h.1 in
    let decimal : IsDecimal (parts_of text) = subst IsDecimal (sym same) h.1.decimal in
    count_is (dividend_of p h.0) (divisor_of h.0) g r (ten_pos _) h.2
    ∙ ap (λ d. count_of (dividend_of p d) (divisor_of d) g) (sym same)
    ∙ sym (at_decimal p g text decimal)

-- The grammar fixes the answer.
pub reading_is : (p g : ℕ) (text : List ℕ) (r : Result ℕ TextFault) → IsReading p g text r → r ≡ reading_of p g text
reading_is p g text (Ok u) h = count_reads p g text (Ok u) h
reading_is p g text (Err NotDecimal) h = sym (at_other p g text (λ d. h (parts_of text) (parts_are_written text d)))
reading_is p g text (Err TooFine) h = count_reads p g text (Err TooFine) h
reading_is p g text (Err TooLarge) h = count_reads p g text (Err TooLarge) h
reading_is p g text (Err NotName) h = absurd h
reading_is p g text (Err NotChoice) h = absurd h

-- A count of a text is its reading.
pub reading_from_count : (p g : ℕ) (text : List ℕ) (r : Result ℕ TextFault) → IsDecimal (parts_of text) → IsCount (dividend_of p (parts_of text)) (divisor_of (parts_of text)) g r → IsReading p g text r
reading_from_count p g text (Ok u) d h = (parts_of text, parts_are_written text d, h)
reading_from_count p g text (Err NotDecimal) d h = absurd h
reading_from_count p g text (Err TooFine) d h = (parts_of text, parts_are_written text d, h)
reading_from_count p g text (Err TooLarge) d h = (parts_of text, parts_are_written text d, h)
reading_from_count p g text (Err NotName) d h = absurd h
reading_from_count p g text (Err NotChoice) d h = absurd h

-- The function of the text meets the grammar at each text.
-- The same of the numbers that a scan gives.
pub reading_from_value : (p g : ℕ) (text : List ℕ) (scanned : Scanned) (r : Result ℕ TextFault) → IsDecimal (parts_of text) → IsValueOf scanned (parts_of text)
    → IsCount (scanned.number * 10 ^ (scanned.raised + p)) (10 ^ scanned.lowered) g r → IsReading p g text r
reading_from_value p g text scanned r d v h =
    let top : scanned.number * 10 ^ (scanned.raised + p) ≡ dividend_of p (parts_of text) = ap (λ n. n * 10 ^ (scanned.raised + p)) v.number ∙ ap (λ k. number_of (parts_of text) * 10 ^ (k + p)) v.raised in
    let bottom : 10 ^ scanned.lowered ≡ divisor_of (parts_of text) = ap (λ k. 10 ^ k) v.lowered in
    reading_from_count p g text r d (subst (λ n. IsCount n (divisor_of (parts_of text)) g r) top (subst (λ m. IsCount (scanned.number * 10 ^ (scanned.raised + p)) m g r) bottom h))

reading_by : (p g : ℕ) (text : List ℕ) (b : Bool) → is_decimal (parts_of text) ≡ b → IsReading p g text (reading_of p g text)
reading_by p g text true e =
    let decimal = (decides_decimal (parts_of text)).0 e in
    let Reads : Result ℕ TextFault → Type 0 = λ r. IsReading p g text r in
    subst Reads (sym (at_decimal p g text decimal))
    (reading_from_count p g text _ decimal (count_of_is_count (dividend_of p (parts_of text)) (divisor_of (parts_of text)) g (ten_pos _)))
reading_by p g text false e =
    let none = not_from_Decides (is_decimal (parts_of text)) (decides_decimal (parts_of text)) e in
    let Reads : Result ℕ TextFault → Type 0 = λ r. IsReading p g text r in
    subst Reads (sym (at_other p g text none)) (no_parts text none)

pub reading_of_is_reading : (p g : ℕ) (text : List ℕ) → IsReading p g text (reading_of p g text)
reading_of_is_reading p g text = reading_by p g text (is_decimal (parts_of text)) refl
