-- A sum of products as contracts see it, and how great it may become.
use Rattle.std.specs.Prelude.{ℕ, ◌+◌, ◌-◌, ◌*◌, ◌^◌, ◌≤◌, min}

-- the sum of the products, and how many there are
pub record DotValue : Type 0 where
  pub sum : ℕ
  pub number : ℕ

-- no more than the first 1,024 products at their greatest, 2^116, and the later ones at theirs, 2^108
pub record IsSmall (sum number : ℕ) : Type 0 where
  pub below : sum ≤ min number 1024 * 2 ^ 116 + (number - 1024) * 2 ^ 108
  pub few : number ≤ 65_536
