use Rattle.count_laws.proofs.Numbering.{number_of-small, counts_numbered-number_of, counts_numbered-valid, number_of-counts_numbered, start-valid, number_of-start}
use Rattle.lumping.proofs.numbering_laws.Goals as goal

pub returns : goal.returns
returns c = λ gs. record {
  below = number_of-small gs;
  back = counts_numbered-number_of gs;
  valid = counts_numbered-valid gs;
  forth = number_of-counts_numbered gs;
  start_valid = start-valid gs;
  start_first = number_of-start gs;
}
