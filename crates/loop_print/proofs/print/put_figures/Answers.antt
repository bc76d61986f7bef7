use Rattle.std.proofs.Common.{codes, refl}
use Rattle.toml.specs.View.{table_view}
use Rattle.loop_print.proofs.Puts.{put_step}
use Rattle.loop_print.proofs.print.put_figures.Goals as goal

pub returns : goal.returns
returns c =
    let before = table_view c.args.table.now in
    put_step (codes "beta") _ _ _ _ _ c.in_ok-put-7.ensures c.in_ok-thousandths-3.ensures
    (put_step (codes "beta_d") _ _ _ _ _ c.in_ok-put-6.ensures c.in_ok-thousandths-2.ensures
    (put_step (codes "coverage") _ _ _ _ _ c.in_ok-put-5.ensures c.in_ok-thousandths.ensures
    (put_step (codes "dd") _ _ _ _ _ c.in_ok-put-4.ensures c.in_ok-rate-2.ensures
    (put_step (codes "du") _ _ _ _ _ c.in_ok-put-3.ensures c.in_ok-rate.ensures
    (put_step (codes "repair") _ _ _ _ _ c.in_ok-put-2.ensures c.whole_number.ensures
    (put_step (codes "restart_fault") _ _ before before _ c.in_ok-put.ensures c.in_ok-millionths.ensures refl))))))
