-- The powers of the subsystems, changed one after another.
use Rattle.std.proofs.Common.{◌≡◌, ℕ, suc, ◌+◌, ◌-◌, ◌^◌, ◌<◌, ◌≤◌, List, [], ◌∷◌, ◌++◌, length, get_or, set, map, take, drop, sum_by}
use Rattle.std.proofs.Common.{refl, ap, ◌∙◌, arith, append-nil}
use Rattle.std.proofs.lemmas.List.{get_or-append_right, get_or-drop, length-map, length-take-le, take_all, drop_all}
use Rattle.std.proofs.lemmas.List.Edits.{map_over_more}
use Rattle.std.proofs.lemmas.List.Sums.{sum_by-cons}
use Rattle.sil_model.specs.Sizes.{states_of}
use Rattle.sil_model.specs.declared.parts.Subsystem.{Subsystem}
use Rattle.product_chain.specs.Kept.{ChainValue}
use Rattle.separate_laws.specs.Subsystems.{states_in}
use Rattle.subsystem_power.specs.Powers.{PowerValue}
use Rattle.phase_separate.specs.Products.{power_products}
use Rattle.phase_separate.specs.Subsystems.{chain_alone, powers_at}
use Rattle.phase_separate.proofs.Passing.{IsNext, next_of}

-- the same subsystem with another power
abbrev pub changed : (ℕ → ℕ) → PowerValue → PowerValue
changed change p = record { chain = p.chain; power = change p.power }

all_changed : (change : ℕ → ℕ) (c : ChainValue) (n : ℕ) (us : List Subsystem)
    → map (changed change) (map (λ u. record { chain = chain_alone c u; power = n }) us) ≡ map (λ u. record { chain = chain_alone c u; power = change n }) us
all_changed change c n [] = refl
all_changed change c n (u ∷ us) = ap (λ ps. record { chain = chain_alone c u; power = change n } ∷ ps) (all_changed change c n us)

module _ (change : ℕ → ℕ) (c : ChainValue) (n : ℕ) (ps : List PowerValue) (all : ps ≡ powers_at c n) where
  -- the first i are changed
  pub record AreChanged (i : ℕ) (now : List PowerValue) (from steps : ℕ) : Type 0 where
    pub list : now ≡ map (changed change) (take i ps) ++ drop i ps
    pub products : steps + sum_by (λ u. states_in u ^ 3) (drop i c.of.subsystems) ≤ from + power_products c.of.subsystems

  pub none_changed : (from : ℕ) → AreChanged 0 ps from from
  none_changed from = record { list = refl; products = omega arith }

  module _ (i : ℕ) (now : List PowerValue) (from steps : ℕ) (before : AreChanged i now from steps) where
    pub all_are_changed : length ps ≤ i → now ≡ powers_at c (change n)
    all_are_changed h =
        before.list ∙ ap (λ xs. map (changed change) xs ++ drop i ps) (take_all i ps h) ∙ ap (λ xs. map (changed change) ps ++ xs) (drop_all i ps h)
        ∙ append-nil (map (changed change) ps) ∙ ap (map (changed change)) all ∙ all_changed change c n c.of.subsystems

    module _ (h : i < length ps) (p : PowerValue) (at : p ≡ get_or now i p) where
      same : get_or now i p ≡ get_or ps i p
      same =
          let none : i + 0 ≡ i = omega arith in
          let far : i - i ≡ 0 = omega arith in
          let long : length (map (changed change) (take i ps)) ≡ i = length-map (take i ps) (changed change) ∙ length-take-le i ps (omega arith) in
          ap (λ xs. get_or xs i p) before.list ∙ get_or-append_right (map (changed change) (take i ps)) (drop i ps) i i p long (omega arith)
          ∙ ap (λ k. get_or (drop i ps) k p) far ∙ get_or-drop i ps 0 p ∙ ap (λ k. get_or ps k p) none

      pub current : IsNext c n c.of.subsystems i p
      current = next_of c n ps all i p h (at ∙ same)

      one_more : i + 1 ≡ suc i
      one_more = omega arith

      pub one_changed : (q : PowerValue) (later : ℕ) → q ≡ changed change p → later ≤ steps + states_of p.chain.of.subsystems ^ 3
          → AreChanged (i + 1) (set now i q) from later
      one_changed q later e few =
          let own : states_of p.chain.of.subsystems ≡ states_in current.subsystem = ap (λ (x : PowerValue). states_of x.chain.of.subsystems) current.power in
          let cube : states_of p.chain.of.subsystems ^ 3 ≡ states_in current.subsystem ^ 3 = ap (λ x. x ^ 3) own in
          let left : sum_by (λ u. states_in u ^ 3) (drop i c.of.subsystems)
          ≡ states_in current.subsystem ^ 3 + sum_by (λ u. states_in u ^ 3) (drop (suc i) c.of.subsystems) =
          ap (sum_by (λ u. states_in u ^ 3)) current.first ∙ sum_by-cons (λ u. states_in u ^ 3) current.subsystem (drop (suc i) c.of.subsystems) in
          record {
            list = rw e (map_over_more (changed change) ps now i p h before.list at);
            products = rw one_more (omega (arith, before.products, left, cube, few));
          }
