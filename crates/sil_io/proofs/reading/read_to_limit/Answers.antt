use Rattle.std.proofs.Common.{◌+◌, ◌-◌, ◌≤◌, ◌++◌, take, drop, length, arith, ◌∙◌, ap, sym}
use Rattle.std.proofs.lemmas.List.{length-take}
use Rattle.sil_io.proofs.Buffers.{take-filled, taken-more}
use Rattle.sil_io.proofs.HandedBytes.{handed-more_is}
use Rattle.sil_io.specs.Handed.{handed_more}
use Rattle.sil_io.proofs.reading.read_to_limit.Goals as goal

pub loop-preserved : goal.loop-preserved
loop-preserved g c =
    let within : c.in-Ok.count ≤ length c.read.new.buf = c.in-Ok.ensures.within in
    let len = c.deref_mut.ensures.len in
    let kept : length c.read.new.buf ≤ length c.deref_mut.result.now - c.loop.filled =
    omega (arith, c.read.auto.buf, length-take (length c.deref_mut.result.now - c.loop.filled) (drop c.loop.filled c.deref_mut.result.now)) in
    let in_range : c.loop.filled + c.in-Ok.count ≤ c.args.limit + 1 = omega arith in
    let in_buffer : c.loop.filled ≤ length c.deref_mut.result.now = omega arith in
    record {
      counted = let some = c.in-Ok.count-test.1 in omega arith;
      in_range = in_range;
      room = c.loop.invariant.room;
      taken = λ told. taken-more c.loop.filled c.in-Ok.count _ c.deref_mut.result.now (g.S.Shelf.left c.loop.shelf) c.read.new.buf _ _
          (c.loop.invariant.taken told ∙ ap (λ xs. take c.loop.filled xs ++ g.S.Shelf.left c.loop.shelf) (sym c.deref_mut.ensures.value))
          (take-filled c.loop.filled c.in-Ok.count _ c.deref_mut.result.now c.read.new.buf _ _ in_buffer within (omega arith))
          (c.in-Ok.ensures.given told) (c.in-Ok.ensures.rest told);
      handed = handed-more_is _ _ _ c.in-Ok.ensures.handed
          (c.loop.invariant.handed ∙ ap (λ xs. handed_more (g.S.Shelf.handed c.args.shelf.now) (take c.loop.filled xs)) (sym c.deref_mut.ensures.value))
          (take-filled c.loop.filled c.in-Ok.count _ c.deref_mut.result.now c.read.new.buf _ _ in_buffer within (omega arith));
      picked_stays = cc;
      files_stay = λ told name. c.in-Ok.ensures.files_stay told name ∙ c.loop.invariant.files_stay told name;
      tried_stay = c.in-Ok.ensures.tried_stay ∙ c.loop.invariant.tried_stay;
      failed_stays = c.in-Ok.ensures.failed_stays ∙ c.loop.invariant.failed_stays;
      calm_stays = λ calm. c.in-Ok.ensures.calm_stays (c.loop.invariant.calm_stays calm);
      no_fault = c.in-Ok.ensures.no_fault ∙ c.loop.invariant.no_fault;
    }

-- a read that failed
pub returns-in-Err-clause-tried_stay : goal.returns-in-Err-clause-tried_stay
returns-in-Err-clause-tried_stay g c = c.in-Err.ensures.tried_stay ∙ c.loop.invariant.tried_stay

pub returns-in-Err-clause-calm_stays : goal.returns-in-Err-clause-calm_stays
returns-in-Err-clause-calm_stays g c = λ calm. c.in-Err.ensures.calm_stays (c.loop.invariant.calm_stays calm)

pub returns-in-Err-clause-calm_count : goal.returns-in-Err-clause-calm_count
returns-in-Err-clause-calm_count g c = λ calm. (c.in-Err.ensures.calm_reads (c.loop.invariant.calm_stays calm)).1 ∙ c.loop.invariant.no_fault

pub returns-in-Err-clause-calm_reads : goal.returns-in-Err-clause-calm_reads
returns-in-Err-clause-calm_reads g c = λ calm failed. let never = (c.in-Err.ensures.calm_reads (c.loop.invariant.calm_stays calm)).0 in cc

-- the end of the file
pub returns-in-Ok-eq0-clause-tried_stay : goal.returns-in-Ok-eq0-clause-tried_stay
returns-in-Ok-eq0-clause-tried_stay g c = c.in-Ok-eq0.ensures.tried_stay ∙ c.loop.invariant.tried_stay

pub returns-in-Ok-eq0-clause-failed_stays : goal.returns-in-Ok-eq0-clause-failed_stays
returns-in-Ok-eq0-clause-failed_stays g c = c.in-Ok-eq0.ensures.failed_stays ∙ c.loop.invariant.failed_stays

pub returns-in-Ok-eq0-clause-calm_stays : goal.returns-in-Ok-eq0-clause-calm_stays
returns-in-Ok-eq0-clause-calm_stays g c = λ calm. c.in-Ok-eq0.ensures.calm_stays (c.loop.invariant.calm_stays calm)

pub returns-in-Ok-eq0-clause-calm_count : goal.returns-in-Ok-eq0-clause-calm_count
returns-in-Ok-eq0-clause-calm_count g c = λ _. c.in-Ok-eq0.ensures.no_fault ∙ c.loop.invariant.no_fault

pub returns-in-Ok-eq0-clause-no_fault : goal.returns-in-Ok-eq0-clause-no_fault
returns-in-Ok-eq0-clause-no_fault g c = c.in-Ok-eq0.ensures.no_fault ∙ c.loop.invariant.no_fault

-- more than the limit
pub returns-clause-tried_stay : goal.returns-clause-tried_stay
returns-clause-tried_stay g c = c.loop.invariant.tried_stay

pub returns-clause-calm_stays : goal.returns-clause-calm_stays
returns-clause-calm_stays g c = c.loop.invariant.calm_stays

pub returns-clause-calm_count : goal.returns-clause-calm_count
returns-clause-calm_count g c = λ _. c.loop.invariant.no_fault
