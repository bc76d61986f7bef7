-- What is expected after tests of channels, one after another.
use Rattle.std.specs.Prelude.{List, [], ◌∷◌, slice_index_or}
use Rattle.sil_fraction.specs.Fraction.{Fraction}
use Rattle.sil_model.specs.State.{FullState}
use Rattle.sil_model.specs.Calendar.{ChannelTest}
use Rattle.sil_model.specs.Pay.{tested}
use Rattle.sil_model.specs.declared.parts.Chan.TheVariants.{Work}

-- what is expected of f after the tests ts from the full state s
abbrev pub after_tests : List ChannelTest → (FullState → Fraction) → FullState → Fraction
after_tests [] f s = f s
after_tests (t ∷ ts) f s = tested t (slice_index_or s t.channel Work) (λ x. after_tests ts f x) s
