-- What running a phase promises, taken to the loop of its chain.
use Rattle.std.proofs.Common.{◌≡◌, ℕ, List}
use Rattle.sil_model.specs.Calendar.{beats_of}
use Rattle.sil_model.specs.LoopValue.{LoopValue}
use Rattle.product_chain.specs.Kept.{ChainValue}
use Rattle.phase_run.specs.Runs.{RunsPhase}
use Rattle.phase_way.specs.Passed.{IsPassed}

pub passed : (l : LoopValue) (c : ChainValue) (order hours beats : ℕ) (v mean v' dwell dwell' : List ℕ)
    → c ≡ record { of = l; hours = hours; beats = beats_of l.subsystems hours } → beats ≡ beats_of l.subsystems hours
    → RunsPhase c.of.subsystems order hours beats v v' mean dwell dwell' → IsPassed l.subsystems order hours v mean v' dwell dwell'
passed l c order hours beats v mean v' dwell dwell' timed is_beats of_chain =
    let runs : RunsPhase l.subsystems order hours (beats_of l.subsystems hours) v v' mean dwell dwell' = rw (timed, is_beats) at of_chain in
    record {
      passes = record { ends = runs.encloses.ends; stays = runs.encloses.dwells };
      loses = record { mass = runs.keeps.ends; lack = runs.loses.ends; dwell_mass = runs.keeps.dwells; dwell_lack = runs.loses.dwells };
      beats = record {
        means = runs.encloses.means;
        ends = runs.encloses.ends;
        mean_mass = runs.keeps.means;
        end_mass = runs.keeps.ends;
        mean_lack = runs.loses.means;
        end_lack = runs.loses.ends;
      };
    }
