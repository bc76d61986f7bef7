use Rattle.std.proofs.Common.{◌<◌, length, rules}
use Rattle.std.proofs.lemmas.List.Sorted.{All-permutation, IsPermutation-map, IsNonDecreasingBy-from_sort_by_key}
use Rattle.product_chain.specs.declared.moves.Move.{Move}
use Rattle.product_chain.specs.Columns.{step_of_move}
use Rattle.product_chain.proofs.moves.moves_of.Goals as goal

pub returns : goal.returns
returns c =
    let moves = c.in_ok-moves.moves.items in
    let sorted = c.sort_unstable_by_key.new.self.items in
    let order = c.sort_unstable_by_key.ensures.permutation in
    record {
      steps = rw c.in_ok-moves.ensures.steps at (IsPermutation-map (step_of_move c.in_ok-moves.rates.items) moves sorted order);
      known = All-permutation (λ (m : Move). m.rate < length c.in_ok-moves.rates.items) moves sorted order c.in_ok-moves.ensures.known;
      slow = c.in_ok-moves.ensures.slow;
      order = IsNonDecreasingBy-from_sort_by_key (λ (m : Move). m.target) sorted c.sort_unstable_by_key.ensures.sorted (λ a r q k. search rules);
    }
