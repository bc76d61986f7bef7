-- What a value stands for, or its flaw.
use Rattle.std.specs.Prelude.{codes, ℕ, ℤ, pos, negsuc, ◌-◌, ◌&&◌, ◌==◌, nat_le, List, [], ◌∷◌, if◌then◌else◌, Option, Some, None, Result, Ok, Err}
use Rattle.std.specs.Str.{bytes_eq}
use Rattle.toml.specs.Data.{Data, as_integer, as_str}
use Rattle.sil_text.specs.declared.fault.TextFault.{TextFault}
use Rattle.sil_text.specs.declared.fault.TextFault.TheVariants.{NotName, NotChoice}
use Rattle.sil_text.specs.Name.{is_name_text}
use Rattle.sil_text.specs.Parts.{rate_of, thousandths_of, millionths_of}
use Rattle.sil_model.specs.declared.parts.InRepair.{InRepair}
use Rattle.sil_model.specs.declared.parts.InRepair.TheVariants.{Lost, Tripped}
use Rattle.sil_model.specs.declared.parts.Vote.{Vote}
use Rattle.loop_file.specs.declared.fault.Flaw.{Flaw}
use Rattle.loop_file.specs.declared.fault.Flaw.TheVariants.{Missing, WrongKind, BadText, OutOfRange, BadVote}

-- a value of another kind is not read further
abbrev pub of_kind : {A B : Type 0} → Option A → (A → Result B Flaw) → Result B Flaw
of_kind None read = Err WrongKind
of_kind (Some x) read = read x

abbrev pub or_bad_text : {A : Type 0} → Result A TextFault → Result A Flaw
or_bad_text (Ok x) = Ok x
or_bad_text (Err f) = Err (BadText f)

abbrev pub text_in : Data → Result (List ℕ) Flaw
text_in d = of_kind (as_str d) Ok

-- an integer from least to greatest
abbrev pub within : ℕ → ℕ → ℤ → Result ℕ Flaw
within least greatest (pos n) = if nat_le least n && nat_le n greatest then Ok n else Err OutOfRange
within least greatest (negsuc n) = Err OutOfRange

abbrev pub whole_in : ℕ → ℕ → Data → Result ℕ Flaw
whole_in least greatest d = of_kind (as_integer d) (within least greatest)

-- decimals
abbrev pub rate_in : Data → Result ℕ Flaw
rate_in d = of_kind (as_str d) (λ t. or_bad_text (rate_of t))

abbrev pub thousandths_in : Data → Result ℕ Flaw
thousandths_in d = of_kind (as_str d) (λ t. or_bad_text (thousandths_of t))

abbrev pub millionths_in : Data → Result ℕ Flaw
millionths_in d = of_kind (as_str d) (λ t. or_bad_text (millionths_of t))

-- a name: 1 to 32 printable ASCII characters
abbrev pub name_in : Data → Result (List ℕ) Flaw
name_in d = of_kind (as_str d) (λ t. if is_name_text t then Ok t else Err (BadText NotName))

-- how channels in repair vote
abbrev pub choice_of : List ℕ → Result InRepair Flaw
choice_of t = if bytes_eq t (codes "lost") then Ok Lost else (if bytes_eq t (codes "tripped") then Ok Tripped else Err (BadText NotChoice))

abbrev pub in_repair_in : Data → Result InRepair Flaw
in_repair_in d = of_kind (as_str d) choice_of

-- a vote is a digit M, the letters `oo` and a digit N, with 1 <= M <= N <= 8
abbrev pub vote_of : List ℕ → Result Vote Flaw
vote_of (m ∷ a ∷ b ∷ n ∷ []) =
    if (a == 111 && b == 111) && (nat_le 49 m && nat_le m n && nat_le n 56) then Ok (record { m = m - 48; n = n - 48 }) else Err BadVote
vote_of _ = Err BadVote

abbrev pub vote_in : Data → Result Vote Flaw
vote_in d = of_kind (as_str d) vote_of

-- what stands at a key that has to be there, and at one that may be left out
abbrev pub required : {A : Type 0} → (Data → Result A Flaw) → Option Data → Result A Flaw
required read None = Err Missing
required read (Some d) = read d

abbrev pub or_none : {A : Type 0} → Result A Flaw → Result (Option A) Flaw
or_none (Ok x) = Ok (Some x)
or_none (Err f) = Err f

abbrev pub optional : {A : Type 0} → (Data → Result A Flaw) → Option Data → Result (Option A) Flaw
optional read None = Ok None
optional read (Some d) = or_none (read d)
