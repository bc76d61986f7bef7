use Rattle.std.proofs.Common.{◌≡◌, ◌≢◌, ℕ, ◌+◌, ◌<◌, ◌≤◌, List, [], ◌∷◌, ◌++◌, length, arith, ap, ◌∙◌}
use Rattle.std.specs.Prelude.{None, All, AllPairs}
use Rattle.std.proofs.lemmas.List.{take_more, map-append}
use Rattle.std.proofs.lemmas.List.Elements.{All-push}
use Rattle.std.proofs.lemmas.List.Quantifiers.{all_pairs_push}
use Rattle.sil_model.specs.LoopValue.{IsSubsystemInRange}
use Rattle.sil_model.specs.declared.parts.InRepair.TheVariants.{Lost}
use Rattle.sil_model.specs.declared.parts.Subsystem.{Subsystem}
use Rattle.sample_loops.specs.declared.Sample.{Sample}
use Rattle.sample_loops.specs.Samples.{sample_of}
use Rattle.sample_loops.proofs.sample_loop.Goals as goal

abbrev no_sample : Sample
no_sample = record {
  vote = record { m = 0; n = 0 };
  figures = record { du = 0; dd = 0; beta = 0; beta_d = 0; coverage = 0; restart_fault = 0; repair = 0 };
  in_repair = Lost;
  test = None;
}

-- a subsystem with a longer name than those before it
module _ (us : List Subsystem) (u : Subsystem) (i : ℕ) (long : length u.name ≡ i + 1) (short : All (λ v. length v.name ≤ i) us) where
  still_short : All (λ v. length v.name ≤ i + 1) (us ++ u ∷ [])
  still_short =
      let P = λ (v : Subsystem). length v.name ≤ i + 1 in
      All-push P us u (λ k d h. omega (arith, short k d h)) (omega arith)

  distinct : AllPairs (λ u v. u.name ≢ v.name) us → AllPairs (λ u v. u.name ≢ v.name) (us ++ u ∷ [])
  distinct names =
      let R = λ (u v : Subsystem). u.name ≢ v.name in
      all_pairs_push R us u names (λ k d h e. omega (arith, short k d h, ap length e))

pub loop-i-preserved : goal.loop-i-preserved
loop-i-preserved c =
    let us : List Subsystem = c.loop-i.subsystems.items in
    let u : Subsystem = c.in_ok-subsystem.field-0 in
    let long = ap length c.in_ok-subsystem.ensures.named ∙ c.name.ensures.size in
    rw c.in_ok-push.ensures.items (record {
      sampled =
          let inside : c.loop-i.i < length c.args.samples.now = omega arith in
          map-append sample_of us (u ∷ []) ∙ cc (
            c.loop-i.invariant.sampled,
            c.in_ok-subsystem.ensures.sampled,
            take_more c.args.samples.now
                c.loop-i.i no_sample inside,
          );
      ranges = All-push IsSubsystemInRange us u c.loop-i.invariant.ranges c.in_ok-subsystem.ensures.in_range;
      short = still_short us u c.loop-i.i long c.loop-i.invariant.short;
      names = distinct us u c.loop-i.i long c.loop-i.invariant.short c.loop-i.invariant.names;
    })
