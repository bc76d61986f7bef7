use Rattle.std.proofs.Common.{◌≡◌, ◌*◌, ◌^◌, ap, ◌∙◌, arith}
use Rattle.std.proofs.lemmas.Bool.{leb-true, le-leb}
use Rattle.beat_ladder.proofs.Rungs.{pairs_of_beats}
use Rattle.beat_ladder.proofs.rung.Rung.is_close.Goals as goal

pub returns-then-missing-beats : goal.returns-then-missing-beats
returns-then-missing-beats c =
    let beats : c.from-beats.result ≡ 2 ^ c.args.self.now.exponent = c.from-beats.ensures ∙ c.beats.ensures.value in
    let square : 200 * c.from-beats.result * c.from-beats.result ≡ 200 * 4 ^ c.args.self.now.exponent = ap (λ b. 200 * b * b) beats ∙ omega (arith, pairs_of_beats c.args.self.now.exponent) in (
      λ close. record { ends = omega (arith, c.missing.ensures, c.if-missing-beats.true, beats); stays = omega (arith, c.dwell_missing.ensures, leb-true _ _ close, square) },
      λ close. le-leb _ _ (omega (arith, c.dwell_missing.ensures, close.stays, square)),
    )
