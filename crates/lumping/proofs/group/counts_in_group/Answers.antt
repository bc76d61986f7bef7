use Rattle.std.proofs.Common.{sym, arith}
use Rattle.lumping.proofs.Fours.{few_failed, few_deep, list_numbered-four}
use Rattle.lumping.proofs.group.counts_in_group.Goals as goal

pub overflow_sub-result : goal.overflow_sub-result
overflow_sub-result c = few_failed c.args.size c.args.number _ _ _ _ c.requires.number c.split_triples-failed.ensures.whole c.split_triples-failed.ensures.rest c.split_pairs-deep_or_repair.ensures.whole c.split_pairs-deep_or_repair.ensures.rest

pub overflow_sub-result-2 : goal.overflow_sub-result-2
overflow_sub-result-2 c = few_deep c.args.size c.args.number _ _ _ _ c.requires.number c.split_triples-failed.ensures.whole c.split_triples-failed.ensures.rest c.split_pairs-deep_or_repair.ensures.whole c.split_pairs-deep_or_repair.ensures.rest

pub overflow_cast-result : goal.overflow_cast-result
overflow_cast-result c = omega (arith, overflow_sub-result c)

pub overflow_cast-result-2 : goal.overflow_cast-result-2
overflow_cast-result-2 c = omega (arith, overflow_sub-result c)

pub overflow_cast-result-3 : goal.overflow_cast-result-3
overflow_cast-result-3 c = omega (arith, overflow_sub-result c, overflow_sub-result-2 c)

pub returns : goal.returns
returns c = sym (list_numbered-four c.args.size c.args.number _ _ _ _ c.requires.number c.split_triples-failed.ensures.whole c.split_triples-failed.ensures.rest c.split_pairs-deep_or_repair.ensures.whole c.split_pairs-deep_or_repair.ensures.rest)
