use Rattle.std.proofs.Common.{◌≡◌, refl, sym, ◌∙◌, arith}
use Rattle.std.proofs.lemmas.Bool.{false≢true}
use Rattle.std.proofs.lemmas.Grind.{common_steps}
use Rattle.std.proofs.lemmas.List.{take_rest}
use Rattle.sil_text.specs.Decimal.{minus, plus, unsigned}
use Rattle.sil_text.specs.Parts.{sign_of}
use Rattle.sil_text.proofs.Scans.{sign_at, sign_elsewhere, after_sign_at}
use Rattle.sil_text.proofs.scan.split_sign.Goals as goal
use Rattle.sil_text.proofs.scan.split_sign.Goals.{in_default-via-then-text-lt1, in_default-via-else-text-lt1+in_default-1}

pub returns-in-45-clause-sign : goal.returns-in-45-clause-sign
returns-in-45-clause-sign c =
    let is_minus = sign_at c.args.text.now 45 c.in-45.len_at_least (omega arith) in
    (λ _. is_minus, λ _. refl)

pub returns-in-45-clause-rest : goal.returns-in-45-clause-rest
returns-in-45-clause-rest c =
    let is_minus = sign_at c.args.text.now 45 c.in-45.len_at_least (omega arith) in
    take_rest c.args.text.now 1 ∙ sym (after_sign_at c.args.text.now minus is_minus)

pub returns-in-43-clause-sign : goal.returns-in-43-clause-sign
returns-in-43-clause-sign c =
    let is_plus = sign_at c.args.text.now 43 (omega arith) (omega arith) in
    (λ no. absurd (false≢true no), λ is_minus. absurd (cc))

pub returns-in-43-clause-rest : goal.returns-in-43-clause-rest
returns-in-43-clause-rest c =
    let is_plus = sign_at c.args.text.now 43 (omega arith) (omega arith) in
    take_rest c.args.text.now 1 ∙ sym (after_sign_at c.args.text.now plus is_plus)

neither : (c : goal.In_default) → sign_of c.args.text.now ≡ unsigned
neither c = elim c.in_default.branch [
  | in_default-via-then-text-lt1 w ↦ sign_elsewhere c.args.text.now (λ some first. absurd (grind (arith, common_steps))) (λ some first. absurd (grind (arith, common_steps)))
  | in_default-via-else-text-lt1+in_default-1 w ↦ sign_elsewhere c.args.text.now (λ some first. absurd (grind (arith, common_steps))) (λ some first. absurd (grind (arith, common_steps)))
]

pub returns-in_default-clause-sign : goal.returns-in_default-clause-sign
returns-in_default-clause-sign c =
    let none = neither c in
    (λ no. absurd (false≢true no), λ is_minus. absurd (cc))

pub returns-in_default-clause-rest : goal.returns-in_default-clause-rest
returns-in_default-clause-rest c = sym (after_sign_at c.args.text.now unsigned (neither c))
