-- What makes the bytes of a file sound for no loop.
use Rattle.std.proofs.Common.{◌≡◌, ◌∙◌, ℕ, ◌<◌, List, length, Some, None, sym, subst, arith}
use Rattle.sil_model.specs.LoopValue.{LoopValue}
use Rattle.sil_model.specs.Sizes.{first_limit_of, most_file_bytes}
use Rattle.sil_model.specs.declared.answers.LimitFault.{LimitFault}
use Rattle.file_fault.specs.declared.FileFault.{FileFault}
use Rattle.loop_file.specs.LoopFile.{IsLoopOf, HasFault}
use Rattle.sil_top.proofs.Complete.{one_loop, sound_bytes}
use Rattle.complete_run.specs.Whole.{AreUnsound}

pub long_file : (bytes : List ℕ) → most_file_bytes < length bytes → AreUnsound bytes
long_file bytes long l sound = let short = sound.short in omega (arith, long, short)

pub faulty_file : (bytes : List ℕ) (f : FileFault) → HasFault bytes f → AreUnsound bytes
faulty_file bytes f has l sound = sound_bytes bytes l f sound.is_loop has

pub loop_over_limit : (bytes : List ℕ) (m : LoopValue) (f : LimitFault) → IsLoopOf bytes m → first_limit_of m m.order ≡ Some f → AreUnsound bytes
loop_over_limit bytes m f is_loop first l sound =
    let loop : m ≡ l = one_loop bytes m l is_loop sound.is_loop in
    let none : Some f ≡ None = sym (subst (λ (n : LoopValue). first_limit_of n n.order ≡ Some f) loop first) ∙ sound.within in cc
