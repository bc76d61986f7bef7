use Rattle.std.proofs.Common.{◌≡◌, ◌≤◌, ◌<◌, ℕ, List, [], ◌∷◌, ◌++◌, take, drop, length, arith, ◌-◌, ◌∙◌, ap, refl, sym, subst, zero, suc}
use Rattle.std.proofs.lemmas.Bool.{false_from_ne_true}
use Rattle.std.proofs.lemmas.List.{append-nil, length-take, length-drop, take_all}
use Rattle.sil_io.proofs.Buffers.{sent-more}
use Rattle.sil_io.proofs.Logs.{offers-more}
use Rattle.sil_io.proofs.Writers.{anyway}
use Rattle.sil_io.specs.Bytes.{StopsAtRest}
use Rattle.sil_io.proofs.writing.write_whole.Goals as goal

-- all that is left of a text
rest_is : (done : ℕ) (text : List ℕ) → take (length text - done) (drop done text) ≡ drop done text
rest_is done text = take_all (length text - done) (drop done text) (omega (arith, length-drop done text))

rest_size : (done : ℕ) (text : List ℕ) → length (take (length text - done) (drop done text)) ≡ length text - done
rest_size done text = ap length (rest_is done text) ∙ length-drop done text

-- where there was room for all the bytes, a piece that is offered is the first, and there is room for it
first_fits : {S : Type 0} (room : S → ℕ) (text piece : List ℕ) (done : ℕ) (initial now : S) → done < length text → length piece ≡ length text - done
    → (done ≡ 0 → now ≡ initial) → (0 < done → done ≡ length text) → length text ≤ room initial
    → (done ≡ 0) × (now ≡ initial) × (0 < length piece) × (length piece ≤ room now)
first_fits room text piece zero initial now below size begun all fits =
    let same = begun refl in
    (refl, same, omega (arith, below, size), subst (λ s. length piece ≤ room s) (sym same) (omega (arith, size, fits)))
first_fits room text piece (suc d) initial now below size begun all fits = let whole = all (omega arith) in absurd (omega (arith, below, whole))

pub loop-done-preserved : goal.loop-done-preserved
loop-done-preserved g c =
    let within : c.in_ok-count.count ≤ length c.args.bytes.now - c.loop-done.done =
    let h = c.in_ok-count.ensures.within in omega (arith, h, length-take (length c.args.bytes.now - c.loop-done.done) (drop c.loop-done.done c.args.bytes.now)) in
    record {
      in_range = omega (arith, within);
      sent = λ told. c.in_ok-count.ensures.appended told
          ∙ ap (λ xs. xs ++ take c.in_ok-count.count (take (length c.args.bytes.now - c.loop-done.done) (drop c.loop-done.done c.args.bytes.now))) (c.loop-done.invariant.sent told)
          ∙ sent-more c.loop-done.done c.in_ok-count.count _ _ c.args.bytes.now within;
      taken = c.in_ok-count.ensures.taken
          ∙ ap (λ xs. xs ++ take c.in_ok-count.count (take (length c.args.bytes.now - c.loop-done.done) (drop c.loop-done.done c.args.bytes.now))) c.loop-done.invariant.taken
          ∙ sent-more c.loop-done.done c.in_ok-count.count _ _ c.args.bytes.now within;
      begun = λ none. absurd (c.if-count-eq0.false (omega (arith, none)));
      offered = λ some. offers-more c.args.bytes.now _ c.loop-done.done _ _ _ _ (rest_is c.loop-done.done c.args.bytes.now) c.loop-done-test.true
          (let nonzero = c.if-count-eq0.false in omega (arith, nonzero))
          (λ none. ap g.K.Sink.offered (c.loop-done.invariant.begun none)) c.loop-done.invariant.offered c.in_ok-count.ensures.offered;
      over = λ some. false_from_ne_true (g.K.Sink.stalled c.write.new.self) (λ stalls. let nothing = (c.in_ok-count.ensures.stalls.0 stalls).0 in c.if-count-eq0.false (cc));
      noted = λ some. c.in_ok-count.ensures.noted;
      whole = λ some fits.
          let size = rest_size c.loop-done.done c.args.bytes.now in
          let first = first_fits g.K.Sink.room c.args.bytes.now _ c.loop-done.done c.args.sink.now _ c.loop-done-test.true size
          c.loop-done.invariant.begun (λ more. c.loop-done.invariant.whole more fits) fits in
          let none = first.0 in
          let took = c.in_ok-count.ensures.roomy first.2 first.3 in
          let count : c.in_ok-count.count ≡ length (take (length c.args.bytes.now - c.loop-done.done) (drop c.loop-done.done c.args.bytes.now)) = let e = took.0 in cc in
          omega (arith, none, count, size);
      no_fault = c.in_ok-count.ensures.no_fault ∙ c.loop-done.invariant.no_fault;
    }

pub returns-in_err-count-clause-offered : goal.returns-in_err-count-clause-offered
returns-in_err-count-clause-offered g c = λ some. (offers-more c.args.bytes.now _ c.loop-done.done (suc c.loop-done.done) _ _ _ (rest_is c.loop-done.done c.args.bytes.now)
    c.loop-done-test.true (omega arith) (λ none. ap g.K.Sink.offered (c.loop-done.invariant.begun none)) c.loop-done.invariant.offered c.in_err-count.ensures.offered).0

pub returns-then-count-eq0-clause-offered : goal.returns-then-count-eq0-clause-offered
returns-then-count-eq0-clause-offered g c = λ some. (offers-more c.args.bytes.now _ c.loop-done.done (suc c.loop-done.done) _ _ _ (rest_is c.loop-done.done c.args.bytes.now)
    c.loop-done-test.true (omega arith) (λ none. ap g.K.Sink.offered (c.loop-done.invariant.begun none)) c.loop-done.invariant.offered (c.note_stall.ensures.nothing_offered ∙ c.in_ok-count.ensures.offered)).0

-- the write that failed or stalled was offered what was left
pub returns-in_err-count-clause-stopped : goal.returns-in_err-count-clause-stopped
returns-in_err-count-clause-stopped g c =
    let P : Type 0 = StopsAtRest c.args.bytes.now (g.K.Sink.taken c.args.sink.now) (g.K.Sink.taken c.write.new.self) (g.K.Sink.offered c.write.new.self) in
    let stops : P = record {
      size = c.loop-done.done;
      taken = c.in_err-count.ensures.nothing_taken ∙ c.loop-done.invariant.taken;
      earlier = g.K.Sink.offered c.loop-done.sink;
      last = c.in_err-count.ensures.offered ∙ ap (λ p. g.K.Sink.offered c.loop-done.sink ++ p ∷ []) (rest_is c.loop-done.done c.args.bytes.now);
    } in
    anyway P c.from_residual.result stops

pub returns-then-count-eq0-clause-stopped : goal.returns-then-count-eq0-clause-stopped
returns-then-count-eq0-clause-stopped g c =
    let piece = take (length c.args.bytes.now - c.loop-done.done) (drop c.loop-done.done c.args.bytes.now) in
    let so_far = g.K.Sink.taken c.loop-done.sink in
    record {
      size = c.loop-done.done;
      taken = c.note_stall.ensures.nothing_taken ∙ c.in_ok-count.ensures.taken ∙ ap (λ n. so_far ++ take n piece) c.if-count-eq0.true
          ∙ append-nil so_far ∙ c.loop-done.invariant.taken;
      earlier = g.K.Sink.offered c.loop-done.sink;
      last = c.note_stall.ensures.nothing_offered ∙ c.in_ok-count.ensures.offered
          ∙ ap (λ p. g.K.Sink.offered c.loop-done.sink ++ p ∷ []) (rest_is c.loop-done.done c.args.bytes.now);
    }

-- where there is room for all the bytes, no write fails, and none stalls
pub returns-in_err-count-clause-roomy : goal.returns-in_err-count-clause-roomy
returns-in_err-count-clause-roomy g c = λ fits.
    let first = first_fits g.K.Sink.room c.args.bytes.now _ c.loop-done.done c.args.sink.now _ c.loop-done-test.true (rest_size c.loop-done.done c.args.bytes.now)
    c.loop-done.invariant.begun (λ more. c.loop-done.invariant.whole more fits) fits in
    let took = (c.in_err-count.ensures.roomy first.2 first.3).0 in
    let none : ⊥ = cc in absurd none

pub returns-then-count-eq0-clause-roomy : goal.returns-then-count-eq0-clause-roomy
returns-then-count-eq0-clause-roomy g c = λ fits.
    let size = rest_size c.loop-done.done c.args.bytes.now in
    let first = first_fits g.K.Sink.room c.args.bytes.now _ c.loop-done.done c.args.sink.now _ c.loop-done-test.true size
    c.loop-done.invariant.begun (λ more. c.loop-done.invariant.whole more fits) fits in
    let took = (c.in_ok-count.ensures.roomy first.2 first.3).0 in
    let some = first.2 in
    let count : c.in_ok-count.count ≡ length (take (length c.args.bytes.now - c.loop-done.done) (drop c.loop-done.done c.args.bytes.now)) = cc in
    let none = c.if-count-eq0.true in absurd (omega (arith, count, none, some))

pub returns-clause-roomy : goal.returns-clause-roomy
returns-clause-roomy g c = λ _. (refl, c.loop-done.invariant.no_fault)

pub returns-clause-no_fault : goal.returns-clause-no_fault
returns-clause-no_fault g c = c.loop-done.invariant.no_fault

pub returns-clause-untouched : goal.returns-clause-untouched
returns-clause-untouched g c = λ none. c.loop-done.invariant.begun (let h = c.loop-done.invariant.in_range in omega (arith, none, h))

pub returns-clause-offered : goal.returns-clause-offered
returns-clause-offered g c = λ some. (c.loop-done.invariant.offered (let all = c.loop-done-test.false in omega (arith, some, all))).0

pub returns-clause-over : goal.returns-clause-over
returns-clause-over g c = λ some. c.loop-done.invariant.over (let all = c.loop-done-test.false in omega (arith, some, all))

pub returns-clause-noted : goal.returns-clause-noted
returns-clause-noted g c = λ some. c.loop-done.invariant.noted (let all = c.loop-done-test.false in omega (arith, some, all))
