use Rattle.std.proofs.Common.{ℕ, ◌+◌, ◌*◌, ◌<◌, ◌≢◌, ◌⊎◌, inl, inr, get_or-set_other}
use Rattle.std.proofs.lemmas.Nat.{same_from_place}
use Rattle.dense_power.proofs.dense.Dense.set.Goals as goal

-- two places are apart where a row or a column differs
apart : (r c i j n : ℕ) → c < n → j < n → (r ≢ i) ⊎ (c ≢ j) → r * n + c ≢ i * n + j
apart r c i j n h g (inl p) = λ e. p (same_from_place r c i j n h g e).0
apart r c i j n h g (inr p) = λ e. p (same_from_place r c i j n h g e).1

pub returns-clause-others : goal.returns-clause-others
returns-clause-others c = rw (← c.self.view_is)
    (λ r k h differ. get_or-set_other c.self.inside.entries.items _ _ _ 0
    (apart r k c.args.i c.args.j c.self.inside.size h (rw (← c.self.view_is) at c.requires.column) differ))
