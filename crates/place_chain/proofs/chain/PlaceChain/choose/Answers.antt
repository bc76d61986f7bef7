use Rattle.std.proofs.Common.{◌≡◌, ℕ, ◌+◌, ◌*◌, ◌≤◌, List, length, sym, ap, ◌∙◌, arith}
use Rattle.std.specs.Prelude.{Bool, true, false}
use Rattle.sil_model.specs.Budget.{lumped_events_of}
use Rattle.sil_model.specs.Sizes.{states_of}
use Rattle.sil_model.specs.declared.parts.Subsystem.{Subsystem}
use Rattle.product_chain.proofs.Chains.{written}
use Rattle.place_chain.specs.Places.{ArePlaces, AreCompact}
use Rattle.place_chain.specs.PlaceChain.{PlaceChainValue}
use Rattle.place_chain.specs.Sweeps.{choice_products}
use Rattle.place_chain.proofs.Between.{are_in_order, are_between}
use Rattle.place_chain.proofs.Listed.{unmarked}
use Rattle.place_chain.proofs.chain.PlaceChain.choose.Goals as goal

pub invariant_of-self : goal.invariant_of-self
invariant_of-self g c =
    let s = c.self.inside in
    let chain = c.args.chain.now in
    let all = c.columns-columns.result.entries.now in
    let begins = c.columns-columns.result.starts.now in
    let N : List Bool = c.mark_heavy.new.marks in
    let R : List ℕ = c.list_places.new.ranks in
    let P : List ℕ = c.list_places.new.places.items in
    let loop : s.of.value.of ≡ chain.of = ap (λ (v : PlaceChainValue). v.chain.of) c.self.view_is ∙ c.requires.same in
    let masses_room = rw loop at c.self.invariant.1.masses_room in
    let marks_room = rw loop at c.self.invariant.1.marks_room in
    let ranks_room = rw loop at c.self.invariant.1.ranks_room in
    let starts_room = rw loop at c.self.invariant.1.starts_room in
    let entries_room = rw loop at c.self.invariant.1.entries_room in
    let n_long : length N ≡ length s.marks.items = omega (arith, c.mark_heavy.auto.marks, ap length c.as_mut_slice-2.ensures.value) in
    let n_now = written s.marks.len N s.marks.items n_long (omega arith) in
    let seen : c.as_slice.result.now ≡ N = c.as_slice.ensures.value ∙ n_now in
    let seen_later : c.as_slice-2.result.now ≡ N = c.as_slice-2.ensures.value ∙ n_now in
    let r_long : length R ≡ length s.ranks.items = omega (arith, c.list_places.auto.ranks, ap length c.as_mut_slice-3.ensures.value) in
    let r_now = written s.ranks.len R s.ranks.items r_long (omega arith) in
    let ranks_seen : c.as_slice-3.result.now ≡ R = c.as_slice-3.ensures.value ∙ r_now in
    let long : length N ≡ states_of chain.of.subsystems = omega (arith, n_long, marks_room) in
    let is : ArePlaces N P R = rw seen at c.list_places.ensures.places in
    let compact : AreCompact N R P begins all c.compact.new.starts.items c.compact.new.entries.items =
    rw (seen_later, ranks_seen, c.as_slice-4.ensures.value) at c.compact.ensures.compact in
    rw (c.of.ensures) (
      record {
        valid = c.columns-columns.ensures.valid;
        few = c.columns-columns.ensures.few;
        timed = c.columns-columns.ensures.timed;
        placed =
            are_in_order chain.of.subsystems chain.hours chain.beats N P R begins all c.compact.new.starts.items c.compact.new.entries.items
            c.columns-columns.ensures.weights long is compact c.compact.ensures.few;
        shut = λ e. absurd (apart e);
        between =
            are_between chain.of.subsystems chain.hours chain.beats N P R begins all c.compact.new.starts.items c.compact.new.entries.items
            c.columns-columns.ensures.weights long is compact c.compact.ensures.few;
      },
      record {
        masses_room = masses_room;
        marks_room = marks_room;
        ranks_room = ranks_room;
        places_room = omega (arith, c.list_places.ensures.room, ap length seen, long);
        starts_room = omega (arith, starts_room, c.compact.ensures.starts);
        entries_room = omega (arith, entries_room, c.compact.ensures.room);
      },
    )
  where
    apart : false ≡ true → ⊥
    apart f = cc

pub returns-clause-held : goal.returns-clause-held
returns-clause-held g c =
    let s = c.self.inside in
    let chain = c.args.chain.now in
    let N : List Bool = c.mark_heavy.new.marks in
    let loop : s.of.value.of ≡ chain.of = ap (λ (v : PlaceChainValue). v.chain.of) c.self.view_is ∙ c.requires.same in
    let marks_room = rw loop at c.self.invariant.1.marks_room in
    let n_long : length N ≡ length s.marks.items = omega (arith, c.mark_heavy.auto.marks, ap length c.as_mut_slice-2.ensures.value) in
    let n_now = written s.marks.len N s.marks.items n_long (omega arith) in
    let seen : c.as_slice.result.now ≡ N = c.as_slice.ensures.value ∙ n_now in
    let is : ArePlaces N c.list_places.new.places.items c.list_places.new.ranks = rw seen at c.list_places.ensures.places in
    λ i h more elsewhere.
    apart (sym (c.mark_heavy.ensures.held i h more) ∙ unmarked N c.list_places.new.places.items c.list_places.new.ranks is i
    (omega (arith, h, n_long, marks_room, c.requires.v)) elsewhere)
  where
    apart : true ≡ false → ⊥
    apart f = cc

-- three sweeps over the columns of a chain
three_sweeps : (us : List Subsystem) (entries size a s : ℕ) → entries ≤ states_of us * (lumped_events_of us + 1) → size ≡ states_of us
    → s ≤ a + 3 * (entries + size) → s ≤ a + choice_products us
unfolding lumped_events_of
three_sweeps us entries size a s few e counted = omega (arith, few, e, counted)

pub returns-clause-steps : goal.returns-clause-steps
returns-clause-steps g c =
    three_sweeps c.args.chain.now.of.subsystems (length c.columns-columns.result.entries.now) (length c.args.v.now) c.args.steps.now c.mark_heavy.new.steps
    c.columns-columns.ensures.weights.number c.requires.v c.mark_heavy.ensures.steps
