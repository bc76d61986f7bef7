use Rattle.std.proofs.Common.{◌≡◌, Some, None, refl, ◌∙◌, ap, sym, subst, Option, List, ℕ, IsSome, Result, Ok, Err, IsOk, IsErr, false, rules}
use Rattle.std.specs.List.{position}
use Rattle.sil_io.specs.Handed.{just_picked}
use Rattle.sil_io.specs.ShelfState.{bytes_under, bytes_at, has_name}
use Rattle.sil_io.proofs.Files.{bytes_under-place, bytes_under-None, name_at-place}
use Rattle.sil_io.proofs.memory_shelf.MemShelfShelf.pick.Goals as goal

not_both : {T E : Type 0} → (r : Result T E) → IsOk r → IsErr r → ⊥
not_both (Ok x) ok err = cc
not_both (Err e) ok err = cc

pub returns-in-Some-clause-whole : goal.returns-in-Some-clause-whole
returns-in-Some-clause-whole c =
    let place_is : position (has_name c.args.name.now) c.self.inside.files.items ≡ Some c.in-Some.place =
    ap (position (has_name c.args.name.now)) (sym c.deref.ensures.value) ∙ sym c.in-Some.ensures in
    ap (λ s. bytes_under s.files c.args.name.now) (sym c.self.view_is)
    ∙ bytes_under-place c.args.name.now c.self.inside.files.items c.in-Some.place place_is

pub returns-in-Some-clause-anew : goal.returns-in-Some-clause-anew
returns-in-Some-clause-anew c =
    let place_is : position (has_name c.args.name.now) c.self.inside.files.items ≡ Some c.in-Some.place =
    ap (position (has_name c.args.name.now)) (sym c.deref.ensures.value) ∙ sym c.in-Some.ensures in
    ap just_picked (name_at-place c.args.name.now c.self.inside.files.items c.in-Some.place place_is)

pub returns-in-Some-clause-found : goal.returns-in-Some-clause-found
returns-in-Some-clause-found c =
    let found : bytes_under c.args.self.now.files c.args.name.now ≡ Some (bytes_at c.self.inside.files.items c.in-Some.place) =
    returns-in-Some-clause-whole c in
    let held : IsSome (bytes_under c.args.self.now.files c.args.name.now) = let P : Option (List ℕ) → Type 0 = IsSome in subst P (sym found) (search rules) in
    let planned : c.args.self.now.plan.picks_fail ≡ false = ap (λ s. s.plan.picks_fail) (sym c.self.view_is) ∙ c.if-self.false in
    (λ picked. (planned, held), λ both. refl)

pub returns-in-None-clause-found : goal.returns-in-None-clause-found
returns-in-None-clause-found c =
    let place_is : position (has_name c.args.name.now) c.self.inside.files.items ≡ None =
    ap (position (has_name c.args.name.now)) (sym c.deref.ensures.value) ∙ sym c.in-None.ensures in
    let missing : bytes_under c.args.self.now.files c.args.name.now ≡ None =
    ap (λ s. bytes_under s.files c.args.name.now) (sym c.self.view_is)
    ∙ bytes_under-None c.args.name.now c.self.inside.files.items place_is in
    (λ picked. absurd (not_both c.refuse_pick-in-None.result picked c.refuse_pick-in-None.ensures.fails), λ both. let P : Option (List ℕ) → Type 0 = IsSome in let held = subst P missing both.1 in cc)
