use Rattle.std.proofs.Common.{◌≡◌, ℕ, ◌<◌, ◌++◌, List, length, take, drop, sym, ap, ◌∙◌, arith}
use Rattle.std.specs.Prelude.{Bool, true, false}
use Rattle.sil_model.specs.Sizes.{states_of}
use Rattle.product_chain.proofs.Chains.{written}
use Rattle.place_chain.specs.Marks.{is_marked, IsClosed, IsPassedOn}
use Rattle.place_chain.specs.Places.{ArePlaces, AreCompact}
use Rattle.place_chain.specs.PlaceChain.{PlaceChainValue}
use Rattle.place_chain.proofs.Between.{are_in_order, are_closed, are_between, passed-on}
use Rattle.place_chain.proofs.Listed.{support, marked-inside}
use Rattle.place_chain.proofs.chain.PlaceChain.reach.Goals as goal

pub invariant_of-self : goal.invariant_of-self
invariant_of-self c =
    let s = c.self.inside in
    let chain = c.args.chain.now in
    let all = c.columns-columns.result.entries.now in
    let begins = c.columns-columns.result.starts.now in
    let M : List Bool = c.mark_support.new.marks in
    let N : List Bool = c.mark_reached.new.marks in
    let R : List ℕ = c.list_places.new.ranks in
    let P : List ℕ = c.list_places.new.places.items in
    let loop : s.of.value.of ≡ chain.of = ap (λ (v : PlaceChainValue). v.chain.of) c.self.view_is ∙ c.requires.same in
    let masses_room = rw loop at c.self.invariant.1.masses_room in
    let marks_room = rw loop at c.self.invariant.1.marks_room in
    let ranks_room = rw loop at c.self.invariant.1.ranks_room in
    let starts_room = rw loop at c.self.invariant.1.starts_room in
    let entries_room = rw loop at c.self.invariant.1.entries_room in
    let m_long : length M ≡ length s.marks.items = omega (arith, c.mark_support.auto.marks, ap length c.as_mut_slice.ensures.value) in
    let W : List Bool = take s.marks.len (M ++ drop (length M) s.marks.items) in
    let m_now : W ≡ M = written s.marks.len M s.marks.items m_long (omega arith) in
    let m_seen : c.as_mut_slice-2.result.now ≡ M = c.as_mut_slice-2.ensures.value ∙ m_now in
    let n_long : length N ≡ length M = omega (arith, c.mark_reached.auto.marks, ap length m_seen) in
    let n_now = written s.marks.len N W (omega (arith, n_long, ap length m_now)) (omega (arith, m_long, ap length m_now)) in
    let seen : c.as_slice.result.now ≡ N = c.as_slice.ensures.value ∙ n_now in
    let seen_later : c.as_slice-2.result.now ≡ N = c.as_slice-2.ensures.value ∙ n_now in
    let r_long : length R ≡ length s.ranks.items = omega (arith, c.list_places.auto.ranks, ap length c.as_mut_slice-3.ensures.value) in
    let r_now = written s.ranks.len R s.ranks.items r_long (omega arith) in
    let ranks_seen : c.as_slice-3.result.now ≡ R = c.as_slice-3.ensures.value ∙ r_now in
    let long : length N ≡ states_of chain.of.subsystems = omega (arith, n_long, m_long, marks_room) in
    let closed : IsClosed (length N) begins all N = rw (m_seen, ← n_long) at c.mark_reached.ensures.closed in
    let is : ArePlaces N P R = rw seen at c.list_places.ensures.places in
    let compact : AreCompact N R P begins all c.compact.new.starts.items c.compact.new.entries.items =
    rw (seen_later, ranks_seen, c.as_slice-4.ensures.value) at c.compact.ensures.compact in
    rw (c.of.ensures) (
      record {
        valid = c.columns-columns.ensures.valid;
        few = c.columns-columns.ensures.few;
        timed = c.columns-columns.ensures.timed;
        placed =
            are_in_order chain.of.subsystems chain.hours chain.beats N P R begins all c.compact.new.starts.items c.compact.new.entries.items
            c.columns-columns.ensures.weights long is compact c.compact.ensures.few;
        shut = λ e.
            are_closed chain.of.subsystems chain.hours chain.beats N P R begins all c.compact.new.starts.items c.compact.new.entries.items
            c.columns-columns.ensures.weights long is compact c.compact.ensures.few closed;
        between =
            are_between chain.of.subsystems chain.hours chain.beats N P R begins all c.compact.new.starts.items c.compact.new.entries.items
            c.columns-columns.ensures.weights long is compact c.compact.ensures.few;
      },
      record {
        masses_room = masses_room;
        marks_room = marks_room;
        ranks_room = ranks_room;
        places_room = omega (arith, c.list_places.ensures.room, ap length seen, long);
        starts_room = omega (arith, starts_room, c.compact.ensures.starts);
        entries_room = omega (arith, entries_room, c.compact.ensures.room);
      },
    )

pub returns-clause-support : goal.returns-clause-support
returns-clause-support c =
    let s = c.self.inside in
    let chain = c.args.chain.now in
    let M : List Bool = c.mark_support.new.marks in
    let N : List Bool = c.mark_reached.new.marks in
    let loop : s.of.value.of ≡ chain.of = ap (λ (v : PlaceChainValue). v.chain.of) c.self.view_is ∙ c.requires.same in
    let marks_room = rw loop at c.self.invariant.1.marks_room in
    let m_long : length M ≡ length s.marks.items = omega (arith, c.mark_support.auto.marks, ap length c.as_mut_slice.ensures.value) in
    let W : List Bool = take s.marks.len (M ++ drop (length M) s.marks.items) in
    let m_now : W ≡ M = written s.marks.len M s.marks.items m_long (omega arith) in
    let m_seen : c.as_mut_slice-2.result.now ≡ M = c.as_mut_slice-2.ensures.value ∙ m_now in
    let n_long : length N ≡ length M = omega (arith, c.mark_reached.auto.marks, ap length m_seen) in
    let n_now = written s.marks.len N W (omega (arith, n_long, ap length m_now)) (omega (arith, m_long, ap length m_now)) in
    let seen : c.as_slice.result.now ≡ N = c.as_slice.ensures.value ∙ n_now in
    let is : ArePlaces N c.list_places.new.places.items c.list_places.new.ranks = rw seen at c.list_places.ensures.places in
    support N c.list_places.new.places.items c.list_places.new.ranks is c.args.v.now M (omega (arith, n_long, m_long, marks_room, c.requires.v))
    (rw m_seen at c.mark_reached.ensures.kept) c.mark_support.ensures.all

pub returns-clause-least : goal.returns-clause-least
returns-clause-least c =
    let s = c.self.inside in
    let chain = c.args.chain.now in
    let M : List Bool = c.mark_support.new.marks in
    let N : List Bool = c.mark_reached.new.marks in
    let loop : s.of.value.of ≡ chain.of = ap (λ (v : PlaceChainValue). v.chain.of) c.self.view_is ∙ c.requires.same in
    let marks_room = rw loop at c.self.invariant.1.marks_room in
    let m_long : length M ≡ length s.marks.items = omega (arith, c.mark_support.auto.marks, ap length c.as_mut_slice.ensures.value) in
    let W : List Bool = take s.marks.len (M ++ drop (length M) s.marks.items) in
    let m_now : W ≡ M = written s.marks.len M s.marks.items m_long (omega arith) in
    let m_seen : c.as_mut_slice-2.result.now ≡ M = c.as_mut_slice-2.ensures.value ∙ m_now in
    let n_long : length N ≡ length M = omega (arith, c.mark_reached.auto.marks, ap length m_seen) in
    let n_now = written s.marks.len N W (omega (arith, n_long, ap length m_now)) (omega (arith, m_long, ap length m_now)) in
    let seen : c.as_slice.result.now ≡ N = c.as_slice.ensures.value ∙ n_now in
    let is : ArePlaces N c.list_places.new.places.items c.list_places.new.ranks = rw seen at c.list_places.ensures.places in
    let long : length M ≡ states_of chain.of.subsystems = omega (arith, m_long, marks_room) in
    let seen_long : length c.as_mut_slice-2.result.now ≡ states_of chain.of.subsystems = omega (arith, long, ap length m_seen) in
    λ P has on k h.
    let passed : IsPassedOn (states_of chain.of.subsystems) c.columns-columns.result.starts.now c.columns-columns.result.entries.now P =
    passed-on chain.of.subsystems chain.hours chain.beats c.columns-columns.result.starts.now c.columns-columns.result.entries.now
    c.columns-columns.ensures.weights P on in
    let first : (i : ℕ) → is_marked M i ≡ true → P i ≡ true =
    λ i e. let inside : i < length c.args.v.now = omega (arith, marked-inside M i e, long, c.requires.v) in
    has i inside (λ z. absurd (apart (sym e ∙ c.mark_support.ensures.only i inside z))) in
    c.mark_reached.ensures.least P (rw (← seen_long) at passed) (rw (← m_seen) at first) _ (is.marked k h)
  where
    apart : true ≡ false → ⊥
    apart f = cc
