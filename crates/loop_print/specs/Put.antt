-- One more member of a table.
use Rattle.std.specs.Prelude.{codes, ℕ, List}
use Rattle.std.specs.Ordering.{nat_cmp, match_ordering}
use Rattle.std.specs.Cmp.Lexicographic.{slice_cmp}
use Rattle.toml.specs.Data.{Data, Members, no_members, member}
use Rattle.sil_model.specs.declared.parts.ChannelFigures.{ChannelFigures}
use Rattle.loop_print.specs.Canonical.{whole_number, rate_text, thousandths_text, millionths_text}

-- the members with this one, at its place in the order of the keys' bytes; an equal key takes the value
abbrev pub put : List ℕ → Data → Members → Members
put k d no_members = member k d no_members
put k d (member l e ms) = match_ordering (slice_cmp nat_cmp k l) (member k d (member l e ms)) (member l d ms) (member l e (put k d ms))

-- the members with the figures of channels
abbrev pub with_figures : ChannelFigures → Members → Members
with_figures f ms =
    put (codes "beta") (thousandths_text f.beta) (put (codes "beta_d") (thousandths_text f.beta_d) (put (codes "coverage") (thousandths_text f.coverage)
    (put (codes "dd") (rate_text f.dd) (put (codes "du") (rate_text f.du) (put (codes "repair") (whole_number f.repair)
    (put (codes "restart_fault") (millionths_text f.restart_fault) ms))))))
