use Rattle.verb_table.specs.Rows.{seen_row}
use Rattle.sil_words.proofs.Contract.{call_ok, call_refused}
use Rattle.sil_words.proofs.Sound.{sound}
use Rattle.sil_words.proofs.split.split_words.Goals as goal

pub returns-in-Ok-parsed-clause-ok : goal.returns-in-Ok-parsed-clause-ok
returns-in-Ok-parsed-clause-ok c =
    let row = seen_row c.args.row.now in
    call_ok row.choices (sound row c.requires).table c.args.words.now _ c.in-Ok-parsed.matches c.in-Ok.ensures c.in-Ok-parsed.ensures.kinds
    c.in-Ok-parsed.ensures.matches

pub returns-in-Err-parsed-clause-fault : goal.returns-in-Err-parsed-clause-fault
returns-in-Err-parsed-clause-fault c usage =
    let row = seen_row c.args.row.now in
    call_refused row.choices (sound row c.requires).table c.args.words.now _ c.in-Err-parsed.e c.in-Ok.ensures c.in-Err-parsed.ensures.kinds
    (c.fault_from.ensures usage)
