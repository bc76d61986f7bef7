-- A value that is read is in its range.
use Rattle.std.proofs.Common.{◌≡◌, ℕ, ℤ, pos, negsuc, ◌≤◌, ◌^◌, nat_le, ◌==◌, ◌&&◌, ◌%◌, ◌/◌, Bool, true, false, if◌then◌else◌, List, Option, Some, None, unwrap_or, Result, Ok, Err, refl, arith}
use Rattle.std.proofs.lemmas.Bool.Decides.{nat_tests}
use Rattle.sil_model.specs.LoopValue.{IsWithin}
use Rattle.sil_text.specs.declared.fault.TextFault.{TextFault}
use Rattle.sil_text.specs.Decimal.{dividend_of, divisor_of}
use Rattle.sil_text.specs.Parts.{count_of, reading_of, rate_of, thousandths_of, millionths_of, parts_of, is_decimal}
use Rattle.toml.specs.Data.{Data, as_integer, as_str}
use Rattle.loop_file.specs.declared.fault.Flaw.{Flaw}
use Rattle.loop_file.specs.LoopFile.{value_or, option_or}
use Rattle.loop_file.specs.Readings.{of_kind, or_bad_text, within, whole_in, rate_in, thousandths_in, millionths_in, required, optional, or_none}

test_within : (l g n m : ℕ) (b c : Bool) (f : Flaw) → nat_le l n ≡ b → nat_le n g ≡ c → (if b && c then Ok n else Err f) ≡ Ok m → IsWithin l g m
test_within l g n m true true f x y h = let e : n ≡ m = cc in record { above = grind (arith, nat_tests); below = grind (arith, nat_tests) }
test_within l g n m true false f x y h = absurd (cc)
test_within l g n m false c f x y h = absurd (cc)

pub within_range : (l g : ℕ) (z : ℤ) (m : ℕ) → within l g z ≡ Ok m → IsWithin l g m
within_range l g (pos n) m h = test_within l g n m (nat_le l n) (nat_le n g) _ refl refl h
within_range l g (negsuc n) m h = absurd (cc)

kind_range : (l g : ℕ) (o : Option ℤ) (m : ℕ) → of_kind o (within l g) ≡ Ok m → IsWithin l g m
kind_range l g None m h = absurd (cc)
kind_range l g (Some z) m h = within_range l g z m h

pub whole_range : (l g : ℕ) (d : Data) (m : ℕ) → whole_in l g d ≡ Ok m → IsWithin l g m
whole_range l g d m h = kind_range l g (as_integer d) m h

-- where the default is in the range, too
value_range : (P : ℕ → Type 0) (x : ℕ) (r : Result ℕ Flaw) → P x → ((m : ℕ) → r ≡ Ok m → P m) → P (value_or x r)
value_range P x (Ok m) d h = h m refl
value_range P x (Err f) d h = d

required_range : (P : ℕ → Type 0) (read : Data → Result ℕ Flaw) (found : Option Data) → ((d : Data) (m : ℕ) → read d ≡ Ok m → P m) → (m : ℕ) → required read found ≡ Ok m → P m
required_range P read None h m e = absurd (cc)
required_range P read (Some d) h m e = h d m e

pub required_whole : (l g x : ℕ) (found : Option Data) → IsWithin l g x → IsWithin l g (value_or x (required (whole_in l g) found))
required_whole l g x found d = value_range (IsWithin l g) x _ d (required_range (IsWithin l g) (whole_in l g) found (whole_range l g))

some_range : (P : ℕ → Type 0) (r : Result ℕ Flaw) → ((m : ℕ) → r ≡ Ok m → P m) → (m : ℕ) → or_none r ≡ Ok (Some m) → P m
some_range P (Ok n) h m e = h m (cc)
some_range P (Err f) h m e = absurd (cc)

pub optional_range : (P : ℕ → Type 0) (read : Data → Result ℕ Flaw) (found : Option Data) → ((d : Data) (m : ℕ) → read d ≡ Ok m → P m) → (m : ℕ) → optional read found ≡ Ok (Some m) → P m
optional_range P read None h m e = absurd (cc)
optional_range P read (Some d) h m e = some_range P (read d) (h d) m e

option_range : (P : ℕ → Type 0) (x : ℕ) (r : Result (Option ℕ) Flaw) → P x → ((m : ℕ) → r ≡ Ok (Some m) → P m) → P (option_or x r)
option_range P x (Ok (Some m)) d h = h m refl
option_range P x (Ok None) d h = d
option_range P x (Err f) d h = d

pub optional_whole : (l g x : ℕ) (found : Option Data) → IsWithin l g x → IsWithin l g (option_or x (optional (whole_in l g) found))
optional_whole l g x found d = option_range (IsWithin l g) x _ d (optional_range (IsWithin l g) (whole_in l g) found (whole_range l g))

pub unwrapped : (x : ℕ) (r : Result (Option ℕ) Flaw) (o : Option ℕ) → r ≡ Ok o → unwrap_or o x ≡ option_or x r
unwrapped x r None e = rw e refl
unwrapped x r (Some n) e = rw e refl

-- decimals

count_test : (q g n : ℕ) (a b : Bool) (e f : TextFault) → nat_le q g ≡ b → (if a then (if b then Ok q else Err e) else Err f) ≡ Ok n → n ≤ g
count_test q g n true true e f x h = let same : q ≡ n = cc in grind (arith, nat_tests)
count_test q g n true false e f x h = absurd (cc)
count_test q g n false b e f x h = absurd (cc)

count_range : (a b g n : ℕ) → count_of a b g ≡ Ok n → n ≤ g
unfolding count_of
count_range a b g n h = count_test (a / b) g n (a % b == 0) (nat_le (a / b) g) _ _ refl h

if_decimal : (c : Bool) (r : Result ℕ TextFault) (f : TextFault) (n : ℕ) → (if c then r else Err f) ≡ Ok n → r ≡ Ok n
if_decimal true r f n h = h
if_decimal false r f n h = absurd (cc)

reading_range : (p g : ℕ) (t : List ℕ) (n : ℕ) → reading_of p g t ≡ Ok n → n ≤ g
unfolding reading_of
reading_range p g t n h = count_range (dividend_of p (parts_of t)) (divisor_of (parts_of t)) g n (if_decimal (is_decimal (parts_of t)) _ _ n h)

text_range : (g : ℕ) (o : Option (List ℕ)) (read : List ℕ → Result ℕ TextFault) (n : ℕ) → ((t : List ℕ) (m : ℕ) → read t ≡ Ok m → m ≤ g) → of_kind o (λ t. or_bad_text (read t)) ≡ Ok n → n ≤ g
text_range g None read n h e = absurd (cc)
text_range g (Some t) read n h e = good (read t) (h t) e
  where
    good : (r : Result ℕ TextFault) → ((m : ℕ) → r ≡ Ok m → m ≤ g) → or_bad_text r ≡ Ok n → n ≤ g
    good (Ok m) k x = k n (cc)
    good (Err f) k x = absurd (cc)

pub rate_range : (d : Data) (n : ℕ) → rate_in d ≡ Ok n → n ≤ 10 ^ 9
unfolding rate_of
rate_range d n e = text_range (10 ^ 9) (as_str d) rate_of n rates e
  where
    rates : (t : List ℕ) (m : ℕ) → rate_of t ≡ Ok m → m ≤ 10 ^ 9
    rates t m h = reading_range 12 (10 ^ 9) t m h

pub thousandths_range : (d : Data) (n : ℕ) → thousandths_in d ≡ Ok n → n ≤ 10 ^ 3
unfolding thousandths_of
thousandths_range d n e = text_range (10 ^ 3) (as_str d) thousandths_of n shares e
  where
    shares : (t : List ℕ) (m : ℕ) → thousandths_of t ≡ Ok m → m ≤ 10 ^ 3
    shares t m h = reading_range 3 (10 ^ 3) t m h

pub millionths_range : (d : Data) (n : ℕ) → millionths_in d ≡ Ok n → n ≤ 10 ^ 6
unfolding millionths_of
millionths_range d n e = text_range (10 ^ 6) (as_str d) millionths_of n shares e
  where
    shares : (t : List ℕ) (m : ℕ) → millionths_of t ≡ Ok m → m ≤ 10 ^ 6
    shares t m h = reading_range 6 (10 ^ 6) t m h
