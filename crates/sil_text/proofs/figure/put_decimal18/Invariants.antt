use Rattle.std.proofs.Common.{◌≡◌, ℕ, ◌-◌, ◌/◌, ◌^◌, ◌<◌, length, get_or}
use Rattle.sil_text.specs.Figure.{digit_at}
use Rattle.sil_text.proofs.figure.put_decimal18.Given as goal

abbrev pub invariant-loop-place : goal.invariant-loop-place
invariant-loop-place l = record {
  rest : l.rest ≡ l.v / 10 ^ l.place;
  point : get_or l.text 1 0 ≡ 46;
  digits : (k : ℕ) → k < l.place → get_or l.text (19 - k) 0 ≡ digit_at l.v k;
  twenty : length l.text ≡ 20;
}
