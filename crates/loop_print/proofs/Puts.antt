-- A value put into the map of a table, seen as a member.
use Rattle.std.proofs.Common.{codes, ◌≡◌, ℕ, List, [], ◌∷◌, Option, Some, None, Global, String, Ordering, Less, Equal, Greater, string_bytes, refl, ap, ◌∙◌}
use Rattle.std.specs.BTreeMap.{insert_entry}
use Rattle.std.specs.Ordering.{match_ordering}
use Rattle.std.specs.String.{string_cmp}
use Rattle.toml.specs.View.{view, members_view}
use Rattle.toml.specs.declared.value.Value.{Value}
use Rattle.toml.specs.Data.{Data, string, table, Members, no_members, member}
use Rattle.sil_model.specs.declared.parts.ChannelFigures.{ChannelFigures}
use Rattle.sil_model.specs.declared.parts.Subsystem.{Subsystem}
use Rattle.sil_model.specs.declared.parts.TestPlan.{TestPlan}
use Rattle.sil_model.specs.declared.parts.Vote.{Vote}
use Rattle.loop_print.specs.Canonical.{whole_number, rate_text, thousandths_text, millionths_text, vote_text, choice_bytes, test_table, last_members, subsystem_table}
use Rattle.loop_print.specs.Put.{put, with_figures}

abbrev pub Entry : Type 0
Entry = String Global × Value

match_members : (o : Ordering) (a b c : List Entry) → members_view (match_ordering o a b c) ≡ match_ordering o (members_view a) (members_view b) (members_view c)
match_members Less a b c = refl
match_members Equal a b c = refl
match_members Greater a b c = refl

pub members_view-insert_entry : (es : List Entry) (k : String Global) (v : Value) → members_view (insert_entry string_cmp es k v) ≡ put (string_bytes k) (view v) (members_view es)
members_view-insert_entry [] k v = refl
members_view-insert_entry (e ∷ es) k v = match_members (string_cmp k e.0) _ _ _ ∙ rw (members_view-insert_entry es k v) refl

-- one put after others
pub put_step : (k : List ℕ) (d e : Data) (a b t : Members) → t ≡ put k d a → d ≡ e → a ≡ b → t ≡ put k e b
put_step k d e a b t is same before = is ∙ ap (λ x. put k x a) same ∙ ap (λ x. put k e x) before

-- the members of a subsystem, put one after another
filled : (f : ChannelFigures) (name choice : List ℕ) (test : Option TestPlan) (v : Vote)
    → with_figures f (put (codes "in_repair") (string choice) (put (codes "name") (string name) (last_members test v)))
    ≡ member (codes "beta") (thousandths_text f.beta) (member (codes "beta_d") (thousandths_text f.beta_d)
    (member (codes "coverage") (thousandths_text f.coverage) (member (codes "dd") (rate_text f.dd)
    (member (codes "du") (rate_text f.du) (member (codes "in_repair") (string choice)
    (member (codes "name") (string name) (member (codes "repair") (whole_number f.repair)
    (member (codes "restart_fault") (millionths_text f.restart_fault) (last_members test v)))))))))
filled f name choice None v = refl
filled f name choice (Some p) v = refl

pub filled_subsystem : (u : Subsystem) → with_figures u.figures (put (codes "in_repair") (string (choice_bytes u.in_repair)) (put (codes "name") (string u.name) (last_members u.test u.vote))) ≡ subsystem_table u
unfolding subsystem_table
filled_subsystem u = filled u.figures u.name (choice_bytes u.in_repair) u.test u.vote

pub last_some : (o : Option TestPlan) (p : TestPlan) (v : Vote) → o ≡ Some p → put (codes "test") (table (test_table p)) (put (codes "vote") (vote_text v) no_members) ≡ last_members o v
last_some o p v e = rw e refl

pub last_none : (o : Option TestPlan) (v : Vote) → o ≡ None → put (codes "vote") (vote_text v) no_members ≡ last_members o v
last_none o v e = rw e refl
