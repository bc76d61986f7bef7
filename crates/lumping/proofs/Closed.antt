-- How many lists have a sum below a small number, as the code computes it.
use Rattle.std.proofs.Common.{ℕ, ◌+◌, ◌*◌, ◌≤◌, arith}
use Rattle.std.proofs.Math.Nat.{mul-le-mul_right}
use Rattle.count_laws.proofs.Closed.{pairs, triples}

-- products of small numbers
pub few_pairs : (n : ℕ) → n ≤ 9 → n * (n + 1) ≤ 90
few_pairs n h = omega (arith, mul-le-mul_right (n + 1) h)

pub few_triples : (n : ℕ) → n ≤ 9 → n * (n + 1) * (n + 2) ≤ 990
few_triples n h = omega (arith, few_pairs n h, mul-le-mul_right (n + 2) (few_pairs n h))

pub ruleset closed = (pairs, triples, few_pairs, few_triples)
