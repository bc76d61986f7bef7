-- The products of phases by powers.
use Rattle.std.proofs.Common.{◌≡◌, ℕ, ◌+◌, ◌<◌, get_or, length}
use Rattle.std.proofs.lemmas.List.Sums.{sum_by_more}
use Rattle.sil_model.specs.Calendar.{Phase, phases_of, beats_of}
use Rattle.sil_model.specs.LoopValue.{LoopValue}
use Rattle.phase_powers.specs.Products.{powered_products}
use Rattle.loop_value.specs.Sizes.{powered_until}

pub powered-more : (l : LoopValue) (order : ℕ) (digits : ℕ → ℕ) (p : ℕ) (d : Phase) → p < length (phases_of l)
    → powered_until l order digits (p + 1)
    ≡ powered_until l order digits p + powered_products l.subsystems order (digits (beats_of l.subsystems (get_or (phases_of l) p d).hours))
powered-more l order digits p d h =
    sum_by_more (λ (q : Phase). powered_products l.subsystems order (digits (beats_of l.subsystems q.hours))) (phases_of l) p d h
