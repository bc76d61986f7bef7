use Rattle.std.proofs.Common.{◌≡◌, List, length, arith, ap, ◌∙◌, sym}
use Rattle.std.specs.Prelude.{map, vec_capacity}
use Rattle.product_chain.specs.Kept.{ChainValue}
use Rattle.std.proofs.lemmas.List.{length-map}
use Rattle.product_chain.specs.declared.moves.TickRate.{TickRate}
use Rattle.product_chain.specs.Columns.{timed}
use Rattle.product_chain.proofs.Chains.{beats-some, sources-inside, written, timed-chain}
use Rattle.product_chain.proofs.chain.Chain.retime.Goals as goal

pub set_rates-requires-clause-some : goal.set_rates-requires-clause-some
set_rates-requires-clause-some c = beats-some c.args.l.now.subsystems c.args.hours c.args.beats c.requires.short

pub set_stays-requires-clause-sources : goal.set_stays-requires-clause-sources
set_stays-requires-clause-sources c =
    let all = sources-inside c.self.inside.of.value.subsystems c.self.invariant.valid.subsystems c.self.inside.rates.items c.self.inside.moves.items
    c.self.invariant.known_moves.steps in
    rw (c.as_slice.ensures.value, c.as_mut_slice-2.ensures.value) (λ k d h. omega (arith, all k d h, c.self.invariant.size))

pub invariant_of-self : goal.invariant_of-self
invariant_of-self c =
    let R : List TickRate = map (timed c.args.hours c.args.beats) c.self.inside.rates.items in
    let rates : c.set_rates.new.rates ≡ R = rw c.as_mut_slice.ensures.value at c.set_rates.ensures in
    let rates_now = written c.self.inside.rates.len c.set_rates.new.rates c.self.inside.rates.items
    (omega (arith, ap length rates, length-map c.self.inside.rates.items (timed c.args.hours c.args.beats))) (omega arith) in
    let stays_now = written c.self.inside.stays.len c.set_stays.new.stays c.self.inside.stays.items
    (omega (arith, ap length c.as_mut_slice-2.ensures.value)) (omega arith) in
    let starts_now = written c.self.inside.starts.len c.fill.new.starts c.self.inside.starts.items
    (omega (arith, ap length c.as_mut_slice-3.ensures.value)) (omega arith) in
    let loop : c.args.l.now ≡ c.self.inside.of.value = c.requires.same ∙ sym (ap (λ (v : ChainValue). v.of) c.self.view_is) in
    let seen : c.as_slice-2.result.now ≡ c.set_rates.new.rates = c.as_slice-2.ensures.value ∙ rates_now in
    let seen_later : c.as_slice-5.result.now ≡ c.set_rates.new.rates = c.as_slice-5.ensures.value ∙ rates_now in
    let stays_seen : c.as_slice-6.result.now ≡ c.set_stays.new.stays = c.as_slice-6.ensures.value ∙ stays_now in
    rw (rates_now, stays_now, starts_now)
    (timed-chain c.self.inside.of.value c.args.hours c.args.beats (rw loop at c.requires.short) c.self.inside.rates.items c.self.inside.moves.items
    c.self.inside.move_starts.items c.set_stays.new.stays c.fill.new.starts
    c.fill.new.entries.items (vec_capacity c.fill.new.entries) c.self.invariant.valid c.self.invariant.few c.self.invariant.known_moves
    (omega (arith, c.self.invariant.size, ap length c.as_mut_slice-2.ensures.value)) c.set_rates.new.rates rates
    (rw (seen, c.as_slice.ensures.value) at c.set_stays.ensures) (rw stays_seen at c.fill.ensures.parts)
    (rw (stays_seen, seen_later, c.as_slice-4.ensures.value, c.as_slice-3.ensures.value) at c.fill.ensures.columns)
    (rw (stays_seen, c.as_slice-3.ensures.value) at c.fill.ensures.room))
